use Rattle.log_makers.proofs.Laws.{checked_none, checked_some}
use Rattle.log_makers.proofs.checked.Goals as goal

pub returns-then-s-lt4 : goal.returns-then-s-lt4
returns-then-s-lt4 c = search checked_none

pub returns : goal.returns
returns c = search checked_some

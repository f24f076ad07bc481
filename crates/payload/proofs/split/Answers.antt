use Rattle.payload.proofs.Laws.{a_start, no_start}
use Rattle.payload.proofs.split.Goals as goal

pub returns-then-start : goal.returns-then-start
returns-then-start c = search a_start

pub returns : goal.returns
returns c = search no_start

-- `pat::add_group` meets its contract: program 0 adds nothing, any other its PID. Assumes nothing.
use Rattle.pat.proofs.Laws.{group_zero, group_some}
use Rattle.pat.proofs.add_group.Goals as goal

pub returns-then-number-ne0 : goal.returns-then-number-ne0
returns-then-number-ne0 c = search group_some

pub returns-else-number-ne0 : goal.returns-else-number-ne0
returns-else-number-ne0 c = search group_zero

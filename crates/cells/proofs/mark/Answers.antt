use Rattle.cells.proofs.Laws.{mark_some, mark_none}
use Rattle.cells.proofs.mark.Goals as goal

pub returns-then-kept_length-ne0 : goal.returns-then-kept_length-ne0
returns-then-kept_length-ne0 c = search mark_some

pub returns-else-kept_length-ne0 : goal.returns-else-kept_length-ne0
returns-else-kept_length-ne0 c = search mark_none

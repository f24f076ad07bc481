use Rattle.units.proofs.Laws.{complete_past, complete_put, complete_not}
use Rattle.units.proofs.put_complete.Goals as goal

pub returns-then-used-i : goal.returns-then-used-i
returns-then-used-i c = search complete_past

pub returns-then-set_complete : goal.returns-then-set_complete
returns-then-set_complete c = search complete_put

pub returns-else-set_complete : goal.returns-else-set_complete
returns-else-set_complete c = search complete_not

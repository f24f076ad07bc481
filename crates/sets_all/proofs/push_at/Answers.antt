use Rattle.sets_all.proofs.Ways.{at_pushed}
use Rattle.sets_all.proofs.push_at.Goals as goal

pub returns : goal.returns
returns c = record { cells_after = search at_pushed; pushable_2 = c.push_ready.ensures.pushable }

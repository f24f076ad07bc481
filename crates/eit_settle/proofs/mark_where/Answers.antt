use Rattle.eit_settle.proofs.Ways.{mark_set}
use Rattle.eit_settle.proofs.mark_where.Goals as goal

pub returns-then-b : goal.returns-then-b
returns-then-b c = search mark_set

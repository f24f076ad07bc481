use Rattle.rows.proofs.Loops.{row_part}
use Rattle.rows.proofs.row_slots.Goals as goal

pub returns : goal.returns
returns c = search row_part

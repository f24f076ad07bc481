use Rattle.rows.proofs.Loops.{full_row}
use Rattle.rows.proofs.row_full.Goals as goal

pub returns : goal.returns
returns c = search full_row

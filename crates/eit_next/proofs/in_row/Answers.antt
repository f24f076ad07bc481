use Rattle.eit_next.proofs.Ways.{row_none, row_in}
use Rattle.eit_next.proofs.in_row.Goals as goal

pub returns-then-row-used : goal.returns-then-row-used
returns-then-row-used c = search row_in

pub returns : goal.returns
returns c = search row_none

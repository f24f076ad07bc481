use Rattle.rows.proofs.Loops.{row_single, row_each}
use Rattle.rows.proofs.row_whole.Goals as goal

pub returns-then-filled_whole : goal.returns-then-filled_whole
returns-then-filled_whole c = search row_single

pub returns : goal.returns
returns c = search row_each

use Rattle.rows.proofs.Loops.{row_marked, row_passed}
use Rattle.rows.proofs.mark_row.Goals as goal

pub returns-then-i-gone : goal.returns-then-i-gone
returns-then-i-gone c = search row_marked

pub returns-else-i-gone : goal.returns-else-i-gone
returns-else-i-gone c = search row_passed

use native.Mathlib.Omega.{arith}
use Rattle.filter.proofs.Laws.{row_leaves, row_stays}
use Rattle.filter.proofs.drop_row.Goals as goal

pub returns-then-matching : goal.returns-then-matching
returns-then-matching c = (search row_leaves, omega arith, omega arith)

pub returns : goal.returns
returns c = (search row_stays, omega arith, omega arith)

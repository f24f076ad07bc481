use native.Mathlib.Omega.{arith}
use Rattle.readers.proofs.Ways.{product_fits}
use Rattle.readers.proofs.Ways.{told_yes, told_no_lem}
use Rattle.readers.proofs.told.Goals as goal

pub overflow_mul-result : goal.overflow_mul-result
overflow_mul-result c = product_fits _ _ (omega (arith, c.cell_number.ensures)) c.requires

pub returns-then-j-slots : goal.returns-then-j-slots
returns-then-j-slots c = search told_yes

pub returns : goal.returns
returns c = search told_no_lem

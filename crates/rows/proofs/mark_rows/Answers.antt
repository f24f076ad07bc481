use mathlib.Core.Path.{refl}
use native.Mathlib.Omega.{arith}
use Rattle.rows.proofs.Loops.{marked_turn, marked_end}
use borrow.Author.Rules.{rules}
use Rattle.rows.proofs.mark_rows.Goals as goal

pub loop-i-init : goal.loop-i-init
loop-i-init c = (omega arith, refl)

pub loop-i-preserved : goal.loop-i-preserved
loop-i-preserved c = (search rules, search marked_turn)

pub returns : goal.returns
returns c = search marked_end

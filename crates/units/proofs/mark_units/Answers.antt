use native.Mathlib.Omega.{arith}
use mathlib.Core.Path.{refl}
use Rattle.units.proofs.Laws.{marks_turn, marks_end}
use borrow.Author.Rules.{rules}
use Rattle.units.proofs.mark_units.Goals as goal

pub loop-j-init : goal.loop-j-init
loop-j-init c = (omega arith, refl)

pub loop-j-preserved : goal.loop-j-preserved
loop-j-preserved c = (search rules, search marks_turn)

pub returns : goal.returns
returns c = search marks_end

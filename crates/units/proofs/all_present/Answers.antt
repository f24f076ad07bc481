use native.Mathlib.Omega.{arith}
use mathlib.Core.Path.{refl}
use Rattle.units.proofs.Laws.{present_turn, present_end}
use borrow.Author.Rules.{rules}
use Rattle.units.proofs.all_present.Goals as goal

pub loop-j-init : goal.loop-j-init
loop-j-init c = (omega arith, refl)

pub loop-j-preserved : goal.loop-j-preserved
loop-j-preserved c = (search rules, search present_turn)

pub returns : goal.returns
returns c = search present_end

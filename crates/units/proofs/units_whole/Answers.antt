use native.Mathlib.Omega.{arith}
use mathlib.Core.Path.{refl}
use Rattle.units.proofs.Laws.{units_turn, units_end}
use borrow.Author.Rules.{rules}
use Rattle.units.proofs.units_whole.Goals as goal

pub loop-j-init : goal.loop-j-init
loop-j-init c = (omega arith, refl)

pub loop-j-preserved : goal.loop-j-preserved
loop-j-preserved c = (search rules, search units_turn)

pub returns : goal.returns
returns c = search units_end

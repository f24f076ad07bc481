use native.Mathlib.Omega.{arith}
use mathlib.Core.Path.{refl}
use Rattle.units.proofs.Laws.{refill_turn, refill_end}
use borrow.Author.Rules.{rules}
use Rattle.units.proofs.refill.Goals as goal

pub loop-j-init : goal.loop-j-init
loop-j-init c = (omega arith, refl, refl)

pub loop-j-preserved : goal.loop-j-preserved
loop-j-preserved c = (search rules, search rules, search refill_turn)

pub returns : goal.returns
returns c = search refill_end

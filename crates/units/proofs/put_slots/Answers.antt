use mathlib.Core.Path.{refl}
use native.Mathlib.Omega.{arith}
use lib.Seq.{paste-zero}
use Rattle.laws.proofs.Lists.{paste_turn}
use Rattle.units.proofs.Laws.{slots_end}
use borrow.Author.Rules.{rules}
use Rattle.units.proofs.put_slots.Goals as goal

pub loop-k-init : goal.loop-k-init
loop-k-init c = (omega arith, refl, search paste-zero)

pub loop-k-preserved : goal.loop-k-preserved
loop-k-preserved c = (search rules, search rules, search paste_turn)

pub returns : goal.returns
returns c = search slots_end

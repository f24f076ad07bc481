use Rattle.streams.proofs.Laws.{mark_turn, mark_end}
use mathlib.Core.Path.{◌≡◌, refl}
use Prim.Native.Nat.{◌≤◌, ◌-◌}
use native.Mathlib.Omega.{arith}
use borrow.Author.Rules.{rules}
use Rattle.streams.proofs.inner.mark_to.Goals as goal

pub loop-n-init : goal.loop-n-init
loop-n-init c = (omega arith, refl)

pub loop-n-preserved : goal.loop-n-preserved
loop-n-preserved c = (search rules, search mark_turn)

pub returns : goal.returns
returns c = search mark_end

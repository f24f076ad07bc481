use Prim.Native.Nat.{◌-◌}
use lib.ListN.{length}
use Rattle.laid.proofs.Walks.{Passes}
use Rattle.laid.proofs.pass.Given as goal

abbrev pub invariant-loop-at : goal.invariant-loop-at
invariant-loop-at l = Passes l.s l.from l.bound l.at

abbrev pub decreases-loop-at : goal.decreases-loop-at
decreases-loop-at l = length l.s - l.at

use Prim.Native.Nat.{◌-◌}
use lib.ListN.{length}
use Rattle.laid.proofs.Walks.{Seeks}
use Rattle.laid.proofs.place_of.Given as goal

abbrev pub invariant-loop-at : goal.invariant-loop-at
invariant-loop-at l = Seeks l.s l.number l.at

abbrev pub decreases-loop-at : goal.decreases-loop-at
decreases-loop-at l = length l.s - l.at

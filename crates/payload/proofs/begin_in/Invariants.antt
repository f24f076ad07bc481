use Rattle.payload.proofs.Laws.{Going}
use Prim.Native.Nat.{◌-◌}
use lib.ListN.{length}
use Rattle.payload.proofs.begin_in.Given as goal

abbrev pub invariant-loop-at : goal.invariant-loop-at
invariant-loop-at l = Going l.packet l.begin l.initial.places l.count l.places l.at l.k

abbrev pub decreases-loop-at : goal.decreases-loop-at
decreases-loop-at l = length l.packet - l.at

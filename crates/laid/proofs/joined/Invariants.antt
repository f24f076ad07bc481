use mathlib.Core.Path.{◌≡◌}
use Prim.Native.Nat.{◌+◌, ◌-◌, ◌≤◌}
use lib.ListN.{length}
use Rattle.laid.specs.Laid.{joined}
use Rattle.laid.proofs.Ways.{run_from}
use Rattle.laid.proofs.joined.Given as goal

abbrev pub invariant-loop-at : goal.invariant-loop-at
invariant-loop-at l = (l.at ≤ length l.s) × (l.prev + 12 ≤ l.at) × (joined l.schedule l.s ≡ run_from l.schedule l.s l.prev l.at)

abbrev pub decreases-loop-at : goal.decreases-loop-at
decreases-loop-at l = length l.s - l.at

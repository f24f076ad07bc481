use mathlib.Core.Path.{◌≡◌}
use mathlib.Core.Bool.{◌&&◌}
use Prim.Native.Nat.{◌≤◌}
use Rattle.schedules.specs.Schedules.{schedules_whole}
use Rattle.schedules.proofs.schedules_whole.Given as goal

abbrev pub invariant-loop-k : goal.invariant-loop-k
invariant-loop-k l = (l.k ≤ l.n) × (schedules_whole l.heads l.units l.count l.size l.n ≡ (l.ok && schedules_whole l.heads l.units l.count l.size l.k))

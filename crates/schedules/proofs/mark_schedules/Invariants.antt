use mathlib.Core.Path.{◌≡◌}
use Prim.Native.Nat.{◌≤◌}
use Rattle.schedules.specs.Schedules.{marked_schedules}
use Rattle.schedules.proofs.mark_schedules.Given as goal

abbrev pub invariant-loop-k : goal.invariant-loop-k
invariant-loop-k l = (l.k ≤ l.n) × (marked_schedules l.heads l.units l.n l.initial.map ≡ marked_schedules l.heads l.units l.k l.map)

use mathlib.Core.Path.{◌≡◌, refl}
use Prim.Native.Nat.{◌≤◌, ◌-◌}
use Rattle.streams.specs.Store.{marked_to}
use Rattle.streams.proofs.inner.mark_to.Given as goal

abbrev pub invariant-loop-n : goal.invariant-loop-n
invariant-loop-n l = (l.n ≤ l.to) × (marked_to l.pids l.count l.n l.map ≡ marked_to l.pids l.count l.to l.initial.map)

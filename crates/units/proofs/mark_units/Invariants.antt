use mathlib.Core.Path.{◌≡◌}
use Prim.Native.Nat.{◌≤◌}
use Rattle.units.specs.Units.{marked_units}
use Rattle.units.proofs.mark_units.Given as goal

abbrev pub invariant-loop-j : goal.invariant-loop-j
invariant-loop-j l = (l.j ≤ l.n) × (marked_units l.units l.base l.n l.initial.map ≡ marked_units l.units l.base l.j l.map)

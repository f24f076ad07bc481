use mathlib.Core.Path.{◌≡◌}
use Prim.Native.Nat.{◌≤◌}
use lib.ListN.{length}
use Rattle.units.specs.Units.{without_units}
use Rattle.units.proofs.empty_units.Given as goal

abbrev pub invariant-loop-j : goal.invariant-loop-j
invariant-loop-j l = (l.j ≤ l.n) × (length l.units ≡ length l.initial.units) × (without_units l.base l.n l.initial.units ≡ without_units l.base l.j l.units)

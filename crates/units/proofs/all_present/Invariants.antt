use mathlib.Core.Path.{◌≡◌}
use mathlib.Core.Bool.{◌&&◌}
use Prim.Native.Nat.{◌≤◌}
use Rattle.units.specs.Units.{all_present}
use Rattle.units.proofs.all_present.Given as goal

abbrev pub invariant-loop-j : goal.invariant-loop-j
invariant-loop-j l = (l.j ≤ l.n) × (all_present l.units l.base l.n ≡ (l.ok && all_present l.units l.base l.j))

use mathlib.Core.Path.{◌≡◌}
use mathlib.Core.Bool.{◌&&◌}
use Prim.Native.Nat.{◌≤◌}
use Rattle.units.specs.Units.{units_whole}
use Rattle.units.proofs.units_whole.Given as goal

abbrev pub invariant-loop-j : goal.invariant-loop-j
invariant-loop-j l = (l.j ≤ l.n) × (units_whole l.units l.count l.size l.base l.n ≡ (l.ok && units_whole l.units l.count l.size l.base l.j))

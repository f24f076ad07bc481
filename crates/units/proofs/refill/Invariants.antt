use mathlib.Core.Path.{◌≡◌}
use Prim.Native.Nat.{◌≤◌}
use lib.ListN.{length}
use Rattle.units.specs.Units.{refilled}
use Rattle.units.proofs.refill.Given as goal

abbrev pub invariant-loop-j : goal.invariant-loop-j
invariant-loop-j l = (l.j ≤ l.n) × (length l.units ≡ length l.initial.units) × (refilled l.heads l.slots l.used l.key l.own l.base l.n l.initial.units ≡ refilled l.heads l.slots l.used l.key l.own l.base l.j l.units)

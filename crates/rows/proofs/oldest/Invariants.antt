use mathlib.Core.Path.{◌≡◌}
use Prim.Native.Nat.{◌≤◌}
use Rattle.rows.specs.Rows.{oldest_of}
use Rattle.rows.proofs.oldest.Given as goal

abbrev pub invariant-loop-i : goal.invariant-loop-i
invariant-loop-i l = (l.i ≤ l.used) × (l.best ≤ l.i) × (l.best ≡ oldest_of l.heads l.i)

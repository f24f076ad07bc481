use mathlib.Core.Path.{◌≡◌}
use Prim.Native.Nat.{◌≤◌}
use lib.ListN.{length}
use Rattle.filter.specs.Drops.{rest, dropped_rows}
use Rattle.filter.proofs.drop_rows.Given as goal

abbrev pub invariant-loop-i : goal.invariant-loop-i
invariant-loop-i l = (l.i ≤ l.left) × (l.left ≤ l.used) × (length l.heads ≡ length l.initial.heads) × (length l.words ≡ length l.initial.words) × (dropped_rows l.of l.f l.used (rest l.initial.heads l.initial.words l.used) ≡ dropped_rows l.of l.f l.i (rest l.heads l.words l.left))

use mathlib.Core.Path.{◌≡◌}
use Prim.Native.Nat.{◌≤◌}
use Rattle.rows.specs.Rows.{marked_rows}
use Rattle.rows.proofs.mark_rows.Given as goal

abbrev pub invariant-loop-i : goal.invariant-loop-i
invariant-loop-i l = (l.i ≤ l.used) × (marked_rows l.heads l.slots l.gone l.used l.initial.map ≡ marked_rows l.heads l.slots l.gone l.i l.map)

use Rattle.std.proofs.Common.{◌≡◌, ◌≤◌, ◌&&◌, eqb, length, drop}
use Rattle.laws.specs.Lists.{same_list}
use Rattle.cells.proofs.same_bytes.Given as goal

abbrev pub invariant-loop-j : goal.invariant-loop-j
invariant-loop-j l = (l.j ≤ length l.a) × (length l.a ≡ length l.b) × (same_list l.a l.b ≡ (eqb l.differ 0 && same_list (drop l.j l.a) (drop l.j l.b)))

use mathlib.Core.Path.{◌≡◌}
use Prim.Native.Nat.{◌*◌, ◌≤◌}
use lib.ListN.{length, drop}
use Rattle.shown_sections.specs.Shown.{slots_show, laid}
use Rattle.shown_sections.proofs.Ways.{laid_from}
use Rattle.shown_sections.proofs.show_slots.Given as goal

abbrev pub invariant-loop-j : goal.invariant-loop-j
invariant-loop-j l = (l.j ≤ length l.slots) × (l.k ≤ l.j * 65536) × (length l.list ≡ length l.initial.list) × (laid_from l.skip l.k (slots_show l.cells l.size (drop l.j l.slots) l.j) l.list ≡ laid l.skip (slots_show l.cells l.size l.slots 0) l.initial.list)

use Rattle.std.proofs.Common.{◌≡◌, ◌≤◌, length, drop}
use Rattle.cells.specs.Cells.{marked_all}
use Rattle.cells.proofs.mark_all.Given as goal

abbrev pub invariant-loop-w : goal.invariant-loop-w
invariant-loop-w l = (l.w-index ≤ length l.slots) × (marked_all (drop l.w-index l.slots) l.map ≡ marked_all l.slots l.initial.map)

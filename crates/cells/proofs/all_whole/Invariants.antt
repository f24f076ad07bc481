use Rattle.std.proofs.Common.{◌≡◌, ◌≤◌, ◌&&◌, length, drop}
use Rattle.cells.specs.Cells.{all_whole}
use Rattle.cells.proofs.all_whole.Given as goal

abbrev pub invariant-loop-w : goal.invariant-loop-w
invariant-loop-w l = (l.w-index ≤ length l.slots) × (all_whole l.count l.size l.slots ≡ (l.ok && all_whole l.count l.size (drop l.w-index l.slots)))

use Rattle.std.proofs.Common.{◌≡◌, ◌≤◌, ◌&&◌, length, drop}
use Rattle.cells.specs.Cells.{all_filled}
use Rattle.cells.proofs.all_filled.Given as goal

abbrev pub invariant-loop-w : goal.invariant-loop-w
invariant-loop-w l = (l.w-index ≤ length l.slots) × (all_filled l.slots ≡ (l.ok && all_filled (drop l.w-index l.slots)))

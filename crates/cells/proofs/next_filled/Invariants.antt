use Rattle.std.proofs.Common.{◌≡◌, ℕ, ◌-◌, ◌≤◌, length, get_or}
use Rattle.laws.specs.Lists.{first_from}
use Rattle.cells.specs.Cells.{filled, next_filled}
use Rattle.cells.proofs.next_filled.Given as goal

abbrev pub invariant-loop-j : goal.invariant-loop-j
invariant-loop-j l = (l.j ≤ length l.slots) × (next_filled l.slots l.from ≡ first_from (λ (k : ℕ). filled (get_or l.slots k 0)) (length l.slots - l.j) l.j)

-- What keeping a section asks for.
use Rattle.std.specs.Prelude.{ℕ, ◌+◌, ◌*◌, ◌≤◌, ◌<◌, List, length}
use Rattle.eit_plan.specs.declared.Keeping.{Keeping}

-- of the section's row, slot and cell
pub record CellOk (size : ℕ) (heads slots cells bytes : List ℕ) (k : Keeping) : Type 0 where
  pub number : k.arrival.entry.number ≤ k.arrival.entry.last
  pub last : k.arrival.entry.last < 256
  pub heads_long : k.room.row * 12 + 12 ≤ length heads
  pub slots_long : k.room.row * 288 + 288 ≤ length slots
  pub size_high : size ≤ 4096
  pub cell : k.cell < 65535
  pub fits : length bytes ≤ size
  pub cells_long : k.cell * size + length bytes ≤ length cells

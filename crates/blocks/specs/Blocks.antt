-- A block of an input, of which some bytes are not used up.
use Rattle.std.specs.Prelude.{◌≡◌, List, ℕ, ◌-◌, ◌≤◌, length}
use Rattle.blocks.specs.declared.Window.{Window}

-- before more is read: at most 188 bytes are kept
pub record Kept (block : List ℕ) (w : Window) : Type 0 where
  pub room : length block ≡ 65724
  pub ordered : w.from ≤ w.to
  pub inside : w.to ≤ 65724
  pub few : w.to - w.from ≤ 188

-- what was kept stands at the front, and what was read behind it
pub record Refilled (block : List ℕ) (w r : Window) : Type 0 where
  pub first : r.from ≡ 0
  pub more : w.to - w.from ≤ r.to
  pub inside : r.to ≤ 65724

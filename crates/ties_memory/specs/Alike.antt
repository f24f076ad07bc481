-- Stores of the set collector that differ only in bytes that no slot shows (docs/RULES.md, "Cells").
-- Assumes nothing.
use Rattle.std.specs.Prelude.{◌≡◌, ℕ, length}
use Rattle.rules_shared.specs.Cells.{Settings, Held, Cells}
use Rattle.rules_shared.specs.Touch.{untouched}
use Rattle.rules_sets.specs.Rules.{SetsOf}
use Rattle.rules_sets.specs.Cells.{Store, Turn, view}

abbrev pub at : Settings → SetsOf Held → Cells → (clock : ℕ) → Store
at o r cells clock = record { settings = o; sets = r; cells = cells; clock = clock }

-- "opened: no rows, counts 0", over these cells
abbrev pub opened_over : Settings → Cells → Store
opened_over o cells = at o untouched cells 0

-- the same settings, rows, number of cells and clock, and the same bytes shown
pub record Alike (s t : Store) : Type 0 where
  pub settings : s.settings ≡ t.settings
  pub sets : s.sets ≡ t.sets
  pub count : length s.cells ≡ length t.cells
  pub clock : s.clock ≡ t.clock
  pub shown : view s ≡ view t

-- the same answer, and stores that are alike
pub record Same (t u : Turn) : Type 0 where
  pub answer : t.answer ≡ u.answer
  pub stores : Alike t.store u.store

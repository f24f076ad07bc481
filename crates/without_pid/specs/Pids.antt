-- Rows without a PID (docs/RULES.md, "Layouts"): word 0 of a row's head is its PID, and 8192 stands for none.
-- Assumes nothing.
use Rattle.std.specs.Prelude.{ℕ, zero, suc, List, Bool, false, ◌||◌, eqb}
use Rattle.rows.specs.Rows.{word}

-- one of the first `used` rows has no PID. A word above 8192 is a PID that no call can give
unfoldable pub without_pid : List ℕ → (used : ℕ) → Bool
without_pid heads zero = false
without_pid heads (suc n) = without_pid heads n || eqb (word heads n 0) 8192

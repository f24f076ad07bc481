-- Which sets are out (docs/RULES.md, "Entries").
use Rattle.std.specs.Prelude.{ℕ, List, Bool, false, cond, not, ltb, eqb}
use Rattle.rows.specs.Rows.{mark_of}

-- a row in use whose mark is not 0
unfoldable pub set_out_lem : (heads : List ℕ) → (used row : ℕ) → Bool
set_out_lem heads used row = cond (ltb row used) (not (eqb (mark_of heads row) 0)) false

-- The promise of each public call names one result.
-- Assumes nothing.
use mathlib.Core.Path.{◌≡◌, sym, ◌∙◌}
use mathlib.Core.List.{List}
use Prim.Native.Nat.{ℕ}

-- two parts that meet the promise hold the same words
pub unique_slots : (x p q : List ℕ) → p ≡ x → q ≡ x → p ≡ q
unique_slots x p q a b = a ∙ sym b

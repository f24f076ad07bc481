-- The promise of `programs` names one answer and one content of the set.
-- Assumes nothing.
use mathlib.Core.Path.{◌≡◌, sym, ◌∙◌}
use Prim.Native.Nat.{ℕ}
use mathlib.Core.List.{List}
use Rattle.pat.specs.declared.Pat.{Pat}
use Rattle.pat.specs.Pat.{pat_of, with_programs}

pub unique_programs :
    (s n : List ℕ) (r q : Pat) (m l : List ℕ) → r ≡ pat_of s → m ≡ with_programs s n → q ≡ pat_of s → l ≡ with_programs s n →
    (r ≡ q) × (m ≡ l)
unique_programs s n r q m l a b c d = (a ∙ sym c, b ∙ sym d)

-- The rules as a walk over lent bytes takes them: the words of the list, and what both sides have to be.
use Rattle.std.specs.Prelude.{◌≡◌, ℕ, ◌+◌, ◌≤◌, List, [], ◌∷◌, Bool, true, length, drop, ltb, leb}
use Rattle.section.specs.Header.{table_id_of}
use Rattle.laid.specs.Laid.{sections_in, laid_out, chain}
use Rattle.laid.specs.Walk.{rank_of}
use Rattle.differences.specs.Rules.{Entry, first_place, kind_of, place_of, entry_by, entry_at, up_from}
use Rattle.differences.specs.declared.Difference.{Difference}

-- up to this place the two are equal
pub record SameTo (x y : List ℕ) (r : ℕ) : Type 0 where
  pub first : r ≤ length x
  pub second : r ≤ length y
  pub place : first_place x y ≡ r + first_place (drop r x) (drop r y)

abbrev pub only_of : ℕ → Difference
only_of kind = record { kind = kind; place = 0 }

abbrev pub difference_of : List ℕ → List ℕ → Difference
difference_of x y = record { kind = kind_of x y; place = place_of x y }

-- four words an entry
unfoldable pub words_of : List Entry → List ℕ
words_of [] = []
words_of (e ∷ es) = e.table ∷ e.number ∷ e.kind ∷ e.place ∷ words_of es

abbrev pub entry_words : ℕ → Difference → List ℕ
entry_words r d = words_of (entry_by r d.kind d.place)

-- sections by rising rank, to the last byte
abbrev pub rises : List ℕ → List ℕ → Bool
rises x y = ltb (rank_of x) (rank_of y)

pub record Ranked (s : List ℕ) : Type 0 where
  pub laid : laid_out s ≡ true
  pub rising : chain rises (sections_in s) ≡ true

-- the entries of all ranks
unfoldable pub all_differences : List (List ℕ) → List (List ℕ) → List Entry
all_differences a b = up_from 65536 0 (entry_at a b)

abbrev pub all_words : List ℕ → List ℕ → List ℕ
all_words a b = words_of (all_differences (sections_in a) (sections_in b))

-- tables that never fall
abbrev pub tables_rise : List ℕ → List ℕ → Bool
tables_rise x y = leb (table_id_of x) (table_id_of y)

-- no sections, or the first is of table t or a later one
abbrev pub StartsAt : ℕ → List (List ℕ) → Type 0
StartsAt t [] = Unit
StartsAt t (x ∷ xs) = t ≤ table_id_of x

pub record Tabled (base : ℕ) (s : List ℕ) : Type 0 where
  pub laid : laid_out s ≡ true
  pub rising : chain tables_rise (sections_in s) ≡ true
  pub starts : StartsAt base (sections_in s)

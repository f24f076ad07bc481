-- What is met on a walk over sections that are laid one after another.
use Rattle.std.specs.Prelude.{◌≡◌, ℕ, ◌+◌, ◌*◌, ◌≤◌, ◌<◌, Bool, true, cond, ◌&&◌, length, drop, leb, ltb, eqb}
use mathlib.Core.List.{List, [], ◌∷◌, flatten}
use Rattle.section.specs.Header.{table_id_of, long_form, section_number}
use Rattle.laid.specs.Laid.{size_of, sections_in, laid_out, of_table}

-- the bytes of the long-form section that s starts with, 0 where it starts with no whole one
abbrev pub long_size : List ℕ → ℕ
long_size s = cond (leb 12 (length s)) (cond (long_form s && leb 12 (size_of s) && leb (size_of s) (length s)) (size_of s) 0) 0

pub record Sized (s : List ℕ) (r : ℕ) : Type 0 where
  pub exact : r ≡ long_size s
  pub within : r ≤ length s
  pub small : r ≤ 4098

-- from `at` on the bytes are long-form sections to the last, or none are left
pub record LaidFrom (s : List ℕ) (at : ℕ) : Type 0 where
  pub fits : at ≤ length s
  pub whole : laid_out (drop at s) ≡ true

-- the sections from `at` on
abbrev pub from : List ℕ → ℕ → List (List ℕ)
from s at = sections_in (drop at s)

-- the first of them, no bytes where there is none
abbrev pub head_of : List (List ℕ) → List ℕ
head_of [] = []
head_of (x ∷ xs) = x

-- where a section stands in the order of a schedule: by table_id, and then by number
abbrev pub rank_of : List ℕ → ℕ
rank_of x = table_id_of x * 256 + section_number x

-- of the first section; 65,536, which is above all ranks, where there is none
abbrev pub head_rank : List (List ℕ) → ℕ
head_rank [] = 65536
head_rank (x ∷ xs) = rank_of x

-- the first section where it has this rank, else no bytes
abbrev pub head_if : ℕ → List (List ℕ) → List ℕ
head_if r xs = cond (eqb (head_rank xs) r) (head_of xs) []

-- the sections behind the first where that has this rank, else all
abbrev pub tail_if : ℕ → List (List ℕ) → List (List ℕ)
tail_if r [] = []
tail_if r (x ∷ xs) = cond (eqb (rank_of x) r) xs (x ∷ xs)

pub record RankAt (s : List ℕ) (at r : ℕ) : Type 0 where
  pub exact : r ≡ head_rank (from s at)
  pub most : r ≤ 65536
  pub some : at < length s → r < 65536

-- the first section where it is of table t, else no bytes
abbrev pub leads : ℕ → List (List ℕ) → List ℕ
leads t [] = []
leads t (x ∷ xs) = cond (of_table t x) x []

-- no bytes, or as many as a long-form section may have
pub record Sectioned (x : List ℕ) : Type 0 where
  pub least : (length x ≡ 0 → ⊥) → 12 ≤ length x
  pub most : length x ≤ 4098

-- the end of the section that starts at `at`
pub record EndAt (s : List ℕ) (at r : ℕ) : Type 0 where
  pub exact : r ≡ at + length (head_of (from s at))
  pub small : r ≤ at + 4098
  pub next : LaidFrom s r

-- ---- by number

-- the section of this number, no bytes where there is none
unfoldable pub numbered : ℕ → List (List ℕ) → List ℕ
numbered n [] = []
numbered n (x ∷ xs) = cond (eqb (section_number x) n) x (numbered n xs)

-- where it starts: behind all those before it
unfoldable pub place_in : ℕ → List (List ℕ) → ℕ
place_in n [] = 0
place_in n (x ∷ xs) = cond (eqb (section_number x) n) 0 (length x + place_in n xs)

pub record Placed (s : List ℕ) (n r : ℕ) : Type 0 where
  pub exact : r ≡ place_in n (sections_in s)
  pub there : head_of (from s r) ≡ numbered n (sections_in s)
  pub laid : LaidFrom s r

-- ---- by table

-- the sections up to the first that fails a test, and those from it on
unfoldable pub leading : (List ℕ → Bool) → List (List ℕ) → List (List ℕ)
leading test [] = []
leading test (x ∷ xs) = cond (test x) (x ∷ leading test xs) []

unfoldable pub following : (List ℕ → Bool) → List (List ℕ) → List (List ℕ)
following test [] = []
following test (x ∷ xs) = cond (test x) (following test xs) (x ∷ xs)

abbrev pub below_table : ℕ → List ℕ → Bool
below_table bound x = ltb (table_id_of x) bound

pub record Passed (test : List ℕ → Bool) (s : List ℕ) (at r : ℕ) : Type 0 where
  pub exact : r ≡ at + length (flatten (leading test (from s at)))
  pub rest : from s r ≡ following test (from s at)
  pub laid : LaidFrom s r

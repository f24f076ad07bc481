-- Where two sides differ, with no memory (docs/RULES.md, "Compared guides"). A side is a list of sections, a section the list of its bytes; no bytes stand
-- for a section that is not there. `cond test a b` is a where the test is true, else b.
use Rattle.std.specs.Prelude.{ℕ, zero, suc, ◌+◌, ◌*◌, ◌/◌, ◌%◌, List, [], ◌∷◌, ◌++◌, Bool, cond, length, eqb}
use Rattle.laws.specs.Lists.{every, same_list}
use Rattle.laid.specs.Laid.{same_version, same_last, of_table}
use Rattle.laid.specs.Walk.{rank_of}

-- an entry of the list: table_id, section number, kind (1 only in the first, 2 only in the second, 3 in both with other bytes), the first differing place of kind 3
pub record Entry : Type 0 where
  pub table : ℕ
  pub number : ℕ
  pub kind : ℕ
  pub place : ℕ

-- the section that a side has of this table and number, by its rank: table_id · 256 + section number
unfoldable pub held_in : List (List ℕ) → ℕ → List ℕ
held_in [] r = []
held_in (x ∷ xs) r = cond (eqb (rank_of x) r) x (held_in xs r)

-- the first byte, from 0, at which two sections differ; the shorter length where one begins the other
unfoldable pub first_place : List ℕ → List ℕ → ℕ
first_place [] ys = 0
first_place (x ∷ xs) [] = 0
first_place (x ∷ xs) (y ∷ ys) = cond (eqb x y) (suc (first_place xs ys)) 0

abbrev pub is_none : List ℕ → Bool
is_none x = eqb (length x) 0

-- the kind of what the sides have of one table and number; 0 where they do not differ
unfoldable pub kind_of : List ℕ → List ℕ → ℕ
kind_of x y = cond (is_none x) (cond (is_none y) 0 2) (cond (is_none y) 1 (cond (same_list x y) 0 3))

unfoldable pub place_of : List ℕ → List ℕ → ℕ
place_of x y = cond (eqb (kind_of x y) 3) (first_place x y) 0

-- one entry, or none of kind 0
abbrev pub entry_by : ℕ → ℕ → ℕ → List Entry
entry_by r kind place = cond (eqb kind 0) [] (record { table = r / 256; number = r % 256; kind = kind; place = place } ∷ [])

abbrev pub entry_of : ℕ → List ℕ → List ℕ → List Entry
entry_of r x y = entry_by r (kind_of x y) (place_of x y)

abbrev pub entry_at : List (List ℕ) → List (List ℕ) → ℕ → List Entry
entry_at a b r = entry_of r (held_in a r) (held_in b r)

-- what the k numbers from n on give, in their order
unfoldable pub up_from : {E : Type 0} → ℕ → ℕ → (ℕ → List E) → List E
up_from zero n f = []
up_from (suc k) n f = f n ++ up_from k (suc n) f

-- the entries of table t: of the numbers 0 to 255 in order
unfoldable pub differences : ℕ → List (List ℕ) → List (List ℕ) → List Entry
differences t a b = up_from 256 (t * 256) (entry_at a b)

-- of two schedules whose kind begins with this table_id: of its 16 tables in order
unfoldable pub schedule_differences : ℕ → List (List ℕ) → List (List ℕ) → List Entry
schedule_differences first a b = up_from 16 first (λ (t : ℕ). differences t a b)

-- ---- the tables of two schedules

-- the first section of table t
unfoldable pub leader : List (List ℕ) → ℕ → List ℕ
leader [] t = []
leader (x ∷ xs) t = cond (of_table t x) x (leader xs t)

-- by their first sections: 0 no side holds the table, 1 the first alone, 2 the second alone, 3 both; and 4 more where versions differ, 8 more where last numbers differ
unfoldable pub table_word : List ℕ → List ℕ → ℕ
table_word x y = cond (is_none x) (cond (is_none y) 0 2) (cond (is_none y) 1 (3 + cond (same_version x y) 0 4 + cond (same_last x y) 0 8))

unfoldable pub table_words : ℕ → List (List ℕ) → List (List ℕ) → List ℕ
table_words first a b = up_from 16 first (λ (t : ℕ). table_word (leader a t) (leader b t) ∷ [])

-- no table that both hold differs in its version, in its last number
abbrev pub versions_agree : List ℕ → Bool
versions_agree words = every (λ (w : ℕ). eqb (w / 4 % 2) 0) words

abbrev pub lasts_agree : List ℕ → Bool
lasts_agree words = every (λ (w : ℕ). eqb (w / 8 % 2) 0) words

-- ---- one section

-- what exactly one of two has, else nothing
unfoldable pub one_of : List ℕ → List ℕ → List ℕ
one_of x y = cond (is_none x) y (cond (is_none y) x [])

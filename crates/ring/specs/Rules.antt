-- The gate's memory (docs/RULES.md, "Gate"): the held keys in order of first arrival, each with its last version and change number.
-- A plain list, with no ring and no room. Where a key stands twice, its first row counts.
use Rattle.std.specs.Prelude.{ℕ, suc, ◌+◌, ◌%◌, List, [], ◌∷◌, ◌++◌, Bool, false, cond, not, ◌&&◌, ◌||◌, length, set, ltb, leb, eqb}

-- a key with the version and the change number that it came with last
pub record Row : Type 0 where
  pub key : ℕ
  pub version : ℕ
  pub change : ℕ

-- a held row has the key
abbrev pub holds : ℕ → List Row → Bool
holds k [] = false
holds k (r ∷ rows) = eqb r.key k || holds k rows

-- the first row that has the key has both numbers too
abbrev pub has : Row → List Row → Bool
has n [] = false
has n (r ∷ rows) = cond (eqb r.key n.key) (eqb r.version n.version && eqb r.change n.change) (has n rows)

-- a known key is updated, in the first row that has it, and keeps its place
abbrev pub updated : Row → List Row → List Row
updated n [] = []
updated n (r ∷ rows) = cond (eqb r.key n.key) (n ∷ rows) (r ∷ updated n rows)

-- the first in order leaves
abbrev pub later : List Row → List Row
later [] = []
later (r ∷ rows) = rows

-- changed means: key unknown, or either number differs
abbrev pub changed : Row → List Row → Bool
changed n rows = not (has n rows)

-- the held keys are at least the capacity and any are held
abbrev pub at_capacity : ℕ → List Row → Bool
at_capacity capacity rows = leb capacity (length rows) && ltb 0 (length rows)

-- for a new key at the capacity the first in order leaves: one eviction
abbrev pub evicts : ℕ → Row → List Row → Bool
evicts capacity n rows = not (holds n.key rows) && at_capacity capacity rows

-- the held rows after an offer
unfoldable pub offered_to : ℕ → Row → List Row → List Row
offered_to capacity n rows = cond (holds n.key rows) (updated n rows) (cond (at_capacity capacity rows) (later rows) rows ++ (n ∷ []))

-- ---- rows by place, for memory that came from no history: there the first match is the one with the lowest place

-- the held rows by place, and the place of the row that leaves next
pub record Laid : Type 0 where
  pub rows : List Row
  pub next : ℕ

-- the rows after an offer: a known key is updated in the first row that has it; a new key goes behind the last row, or at the capacity to the
-- place of the row that leaves, and then the next place is the one behind it, the first behind the last
unfoldable pub laid_after : ℕ → Row → Laid → Laid
laid_after capacity n l =
    cond (holds n.key l.rows) (record { rows = updated n l.rows; next = l.next })
    (cond (at_capacity capacity l.rows) (record { rows = set l.rows l.next n; next = (l.next + 1) % length l.rows })
    (record { rows = l.rows ++ (n ∷ []); next = l.next }))

-- how many rows have the key
abbrev pub count_key : ℕ → List Row → ℕ
count_key k [] = 0
count_key k (r ∷ rows) = cond (eqb r.key k) (suc (count_key k rows)) (count_key k rows)

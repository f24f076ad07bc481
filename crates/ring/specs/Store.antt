-- What offering a key to the ring tells and leaves, for every ring and every content of the lent slices. Each slice is the list of its words.
-- `cond test a b` is a where the test is true, else b.
use Rattle.std.specs.Prelude.{ℕ, suc, ◌+◌, ◌*◌, ◌%◌, max, ◌<◌, ◌≤◌, List, [], ◌∷◌, Bool, true, false, cond, not, ◌&&◌, get_or, take, set, ltb, leb, eqb}
use Rattle.ring.specs.declared.Ring.{Ring}
use Rattle.ring.specs.declared.Seen.{Seen}

-- capacity 0 acts as 1 (docs/RULES.md, "Gate")
abbrev pub room_of : ℕ → ℕ
room_of capacity = max 1 capacity

-- not answer 10: no more rows in use than there is room for, the first row within the room, and room in both slices, of these lengths
abbrev pub whole_of : Ring → ℕ → ℕ → Bool
whole_of g keys changes =
    leb g.used (room_of g.capacity)
    && ltb g.first (room_of g.capacity)
    && leb (room_of g.capacity) keys
    && leb (room_of g.capacity) changes

-- the same as orders of numbers
pub record Whole (g : Ring) (keys changes : ℕ) : Type 0 where
  pub used : g.used ≤ room_of g.capacity
  pub first : g.first < room_of g.capacity
  pub keys_long : room_of g.capacity ≤ keys
  pub changes_long : room_of g.capacity ≤ changes

-- a version and a change number, of 32 bits, as one number
abbrev pub stamp_of : ℕ → ℕ → ℕ
stamp_of version change = version * 4294967296 + change

-- the first row that has the key; the number of rows where none has it
abbrev pub row_of : List ℕ → ℕ → ℕ
row_of [] key = 0
row_of (x ∷ rows) key = cond (eqb x key) 0 (suc (row_of rows key))

abbrev pub ring_with : Ring → ℕ → ℕ → Ring
ring_with g used first = record { capacity = g.capacity; used = used; first = first }

-- the key is in row i: changed where its number differs
unfoldable pub renewed : Ring → List ℕ → ℕ → ℕ → Seen
renewed g changes i number = record { ring = g; changed = not (eqb (get_or changes i 0) number); evicted = false }

-- whether a row is free
abbrev pub has_free : Ring → Bool
has_free g = ltb g.used (room_of g.capacity)

-- the row of a key that is new: the next, or where none is left that of the key that came first
abbrev pub free_row : Ring → ℕ
free_row g = cond (has_free g) g.used g.first

-- the key is new
unfoldable pub arrived : Ring → Seen
arrived g =
    record {
      ring = cond (has_free g) (ring_with g (g.used + 1) g.first) (ring_with g g.used ((g.first + 1) % room_of g.capacity));
      changed = true;
      evicted = not (has_free g);
    }

-- the first row in use with the key; used where there is none
abbrev pub row_for : Ring → List ℕ → ℕ → ℕ
row_for g keys key = row_of (take g.used keys) key

abbrev pub is_known : Ring → List ℕ → ℕ → Bool
is_known g keys key = ltb (row_for g keys key) g.used

-- a key is offered with its number
unfoldable pub seen_of : Ring → List ℕ → List ℕ → ℕ → ℕ → Seen
seen_of g keys changes key number = cond (is_known g keys key) (renewed g changes (row_for g keys key) number) (arrived g)

unfoldable pub keys_after : Ring → List ℕ → ℕ → List ℕ
keys_after g keys key = cond (is_known g keys key) keys (set keys (free_row g) key)

unfoldable pub changes_after : Ring → List ℕ → List ℕ → ℕ → ℕ → List ℕ
changes_after g keys changes key number = set changes (cond (is_known g keys key) (row_for g keys key) (free_row g)) number

-- a ring as opening leaves it: no rows
abbrev pub empty_ring : ℕ → Ring
empty_ring capacity = record { capacity = capacity; used = 0; first = 0 }

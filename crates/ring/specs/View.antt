-- The rows that a ring over lent memory stands for.
use Rattle.std.specs.Prelude.{ℕ, ◌/◌, ◌%◌, ◌<◌, ◌≤◌, ◌≡◌, List, [], ◌∷◌, ◌++◌, length, take, drop}
use Rattle.ring.specs.Rules.{Row, Laid, count_key}
use Rattle.ring.specs.Store.{room_of, Whole, stamp_of, seen_of, keys_after, changes_after}
use Rattle.ring.specs.declared.Ring.{Ring}

-- a ring with the words of its lent slices
pub record Memory : Type 0 where
  pub ring : Ring
  pub keys : List ℕ
  pub changes : List ℕ

-- the memory after an offer
unfoldable pub memory_after : Memory → Row → Memory
memory_after m n =
    record {
      ring = (seen_of m.ring m.keys m.changes n.key (stamp_of n.version n.change)).ring;
      keys = keys_after m.ring m.keys n.key;
      changes = changes_after m.ring m.keys m.changes n.key (stamp_of n.version n.change);
    }

-- the row that a key and a stored number stand for
abbrev pub row_at : ℕ → ℕ → Row
row_at k m = record { key = k; version = m / 4294967296; change = m % 4294967296 }

abbrev pub rows_of : List ℕ → List ℕ → List Row
rows_of [] ms = []
rows_of (k ∷ ks) [] = []
rows_of (k ∷ ks) (m ∷ ms) = row_at k m ∷ rows_of ks ms

-- the rows in use by place, and the place of the row that leaves next
abbrev pub laid_in : Memory → Laid
laid_in m = record { rows = rows_of (take m.ring.used m.keys) (take m.ring.used m.changes); next = m.ring.first }

abbrev pub turned : ℕ → List Row → List Row
turned first rows = drop first rows ++ take first rows

-- the rows in use, from the first in order round
abbrev pub in_order : Memory → List Row
in_order m = turned m.ring.first (laid_in m).rows

-- what every memory that came from an opened one has
pub record Reached (m : Memory) : Type 0 where
  pub whole : Whole m.ring (length m.keys) (length m.changes)
  pub young : m.ring.used < room_of m.ring.capacity → m.ring.first ≡ 0
  pub once : (k : ℕ) → count_key k (in_order m) ≤ 1

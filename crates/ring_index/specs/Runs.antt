-- A ring with its index, offered one key after another: what each offer tells and what is left; and the same of a ring alone, by its linear rule.
use Rattle.std.specs.Prelude.{ℕ, ◌^◌, ◌<◌, List, [], ◌∷◌}
use Rattle.ring.specs.Store.{room_of, stamp_of, seen_of}
use Rattle.ring.specs.Rules.{Row}
use Rattle.ring.specs.View.{Memory, memory_after}
use Rattle.ring.specs.Store.{empty_ring}
use Rattle.ring.specs.declared.Seen.{Seen}
use Rattle.ring_index.specs.Store.{Index, index_of, cleared_by, seen_by, keys_by, changes_by, index_by}

-- a ring over its two slices, with the two of its index
pub record Indexed : Type 0 where
  pub memory : Memory
  pub index : Index

-- the change numbers of the offers have 32 bits, as the code's have
pub data Short : List Row → Type 0 where
  none : Short []
  more : {n : Row} {offers : List Row} → n.change < 2 ^ 32 → Short offers → Short (n ∷ offers)

-- what an offer tells: by the index, and by the ring alone
abbrev pub told_by : Indexed → Row → Seen
told_by s n = seen_by s.memory.ring s.memory.keys s.memory.changes s.index n.key (stamp_of n.version n.change)

abbrev pub told_of : Memory → Row → Seen
told_of m n = seen_of m.ring m.keys m.changes n.key (stamp_of n.version n.change)

-- what an offer leaves, by the index
unfoldable pub indexed_after : Indexed → Row → Indexed
indexed_after s n =
    record {
      memory = record {
        ring = (told_by s n).ring;
        keys = keys_by s.memory.ring s.memory.keys s.index n.key;
        changes = changes_by s.memory.ring s.memory.keys s.memory.changes s.index n.key (stamp_of n.version n.change);
      };
      index = index_by s.memory.ring s.memory.keys s.index n.key;
    }

-- all that a sequence of offers tells
abbrev pub all_told_by : Indexed → List Row → List Seen
all_told_by s [] = []
all_told_by s (n ∷ offers) = told_by s n ∷ all_told_by (indexed_after s n) offers

abbrev pub all_told_of : Memory → List Row → List Seen
all_told_of m [] = []
all_told_of m (n ∷ offers) = told_of m n ∷ all_told_of (memory_after m n) offers

-- and what it leaves
abbrev pub all_left_by : Indexed → List Row → Indexed
all_left_by s [] = s
all_left_by s (n ∷ offers) = all_left_by (indexed_after s n) offers

abbrev pub all_left_of : Memory → List Row → Memory
all_left_of m [] = m
all_left_of m (n ∷ offers) = all_left_of (memory_after m n) offers

-- as opening leaves it: no row in use, and no row in a chain, whatever the slices held
abbrev pub opened_memory : ℕ → List ℕ → List ℕ → Memory
opened_memory capacity keys changes = record { ring = empty_ring capacity; keys = keys; changes = changes }

abbrev pub opened_index : ℕ → List ℕ → List ℕ → Index
opened_index capacity buckets links = index_of (cleared_by (room_of capacity) buckets) links

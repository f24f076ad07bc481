-- Every ring that passes the test of 10, whatever its rows hold: an offer tells and leaves what the rule on the rows by place says, by the first
-- row that has the key.
-- Assumes nothing.
use Prim.Native.Nat.{ℕ, suc, ◌+◌, ◌%◌, ◌^◌, ◌<◌, ◌≤◌, max}
use mathlib.Core.Path.{◌≡◌, refl, sym, ap, ◌∙◌}
use mathlib.Core.List.{List, [], ◌∷◌, ◌++◌}
use mathlib.Core.Bool.{Bool, true, false, cond, not, ◌&&◌}
use lib.ListN.{length, get_or, take, set, length-set}
use lib.Seq.{length-take-le, take-set-lt, get_or-take, take-suc-set}
use lib.Dec.{ltb, leb, eqb}
use borrow.Author.Tests.{lt-ltb, le-ltb, le-leb, ltb-true, ltb-false, leb-true}
use native.Mathlib.Nat.{mod-lt}
use native.Mathlib.Numerals.{add-one}
use native.Mathlib.Omega.{arith}
use Rattle.ring.specs.Store.{room_of, Whole, stamp_of, row_for, is_known, has_free, free_row, ring_with, renewed, arrived, seen_of, keys_after, changes_after}
use Rattle.ring.specs.Rules.{Row, holds, has, updated, changed, at_capacity, evicts, Laid, laid_after}
use Rattle.ring.specs.View.{Memory, memory_after, row_at, rows_of, laid_in}
use Rattle.ring.specs.declared.Seen.{Seen}
use Rattle.ring.proofs.Rows.{held_row, has_row, update_row, stamp_row, length_rows, rows_last, rows_set, has_none}

-- what an offer tells of a memory
abbrev pub seen_in : Memory → Row → Seen
seen_in m n = seen_of m.ring m.keys m.changes n.key (stamp_of n.version n.change)

-- one offer: what it tells and the rows by place are the rule's, and the ring is whole again, with the same capacity
pub record Lies (m : Memory) (n : Row) : Type 0 where
  pub tells : (seen_in m n).changed ≡ changed n (laid_in m).rows
  pub leaves : (seen_in m n).evicted ≡ evicts m.ring.capacity n (laid_in m).rows
  pub laid : laid_in (memory_after m n) ≡ laid_after m.ring.capacity n (laid_in m)
  pub whole : Whole (memory_after m n).ring (length (memory_after m n).keys) (length (memory_after m n).changes)
  pub capacity : (memory_after m n).ring.capacity ≡ m.ring.capacity

-- capacity 0 acts as 1
full_test : (capacity n : ℕ) → (leb capacity n && ltb 0 n) ≡ not (ltb n (room_of capacity))
full_test capacity n = go (ltb n (room_of capacity)) refl
  where
    go : (t : Bool) → ltb n (room_of capacity) ≡ t → (leb capacity n && ltb 0 n) ≡ not t
    go true e = low (leb capacity n) refl
      where
        low : (t : Bool) → leb capacity n ≡ t → (t && ltb 0 n) ≡ false
        low true q = le-ltb 0 n (omega (arith, ltb-true n (room_of capacity) e, leb-true capacity n q))
        low false q = refl
    go false e = let h : max 1 capacity ≤ n = ltb-false _ _ e in rw (le-leb capacity n (omega arith), lt-ltb 0 n (omega arith))

abbrev pub ks_of : Memory → List ℕ
ks_of m = take m.ring.used m.keys

abbrev pub ms_of : Memory → List ℕ
ms_of m = take m.ring.used m.changes

abbrev pub mem_of : Memory → List Row
mem_of m = rows_of (ks_of m) (ms_of m)

abbrev pub stamp_at : Row → ℕ
stamp_at n = stamp_of n.version n.change

module _ (m : Memory) (n : Row) (w : Whole m.ring (length m.keys) (length m.changes)) where
  length_ks : length (ks_of m) ≡ m.ring.used
  length_ks = length-take-le m.ring.used m.keys (omega (arith, w))

  length_ms : length (ms_of m) ≡ m.ring.used
  length_ms = length-take-le m.ring.used m.changes (omega (arith, w))

  length_same : length (ks_of m) ≡ length (ms_of m)
  length_same = length_ks ∙ sym length_ms

  pub length_mem : length (mem_of m) ≡ m.ring.used
  length_mem = length_rows (ks_of m) (ms_of m) length_same ∙ length_ks

  pub held_mem : is_known m.ring m.keys n.key ≡ holds n.key (mem_of m)
  held_mem = ap (ltb (row_for m.ring m.keys n.key)) (sym length_ks) ∙ held_row (ks_of m) (ms_of m) n.key length_same

  pub full_mem : at_capacity m.ring.capacity (mem_of m) ≡ not (has_free m.ring)
  full_mem = full_test m.ring.capacity (length (mem_of m)) ∙ ap (λ (x : ℕ). not (ltb x (room_of m.ring.capacity))) length_mem

  -- the key is known
  module _ (known : is_known m.ring m.keys n.key ≡ true) where
    here : row_for m.ring m.keys n.key < m.ring.used
    here = ltb-true _ _ known

    found : row_for m.ring m.keys n.key < length (ks_of m)
    found = omega (arith, length_ks, here)

    known_seen : seen_in m n ≡ record { ring = m.ring; changed = not (eqb (get_or m.changes (row_for m.ring m.keys n.key) 0) (stamp_at n)); evicted = false }
    unfolding seen_of renewed
    known_seen = rw known

    pub known_memory :
        memory_after m n ≡ record { ring = m.ring; keys = m.keys; changes = set m.changes (row_for m.ring m.keys n.key) (stamp_at n) }
    unfolding memory_after keys_after changes_after
    known_memory = rw (known_seen, known)

    module _ (small : n.change < 2 ^ 32) where
      known_rows : rows_of (ks_of m) (take m.ring.used (set m.changes (row_for m.ring m.keys n.key) (stamp_at n))) ≡ updated n (mem_of m)
      known_rows =
          rw (take-set-lt m.ring.used m.changes (row_for m.ring m.keys n.key) (stamp_at n) here)
          (update_row (ks_of m) (ms_of m) n length_same small found)

      known_has : has n (mem_of m) ≡ eqb (get_or m.changes (row_for m.ring m.keys n.key) 0) (stamp_at n)
      known_has =
          has_row (ks_of m) (ms_of m) n length_same small found
          ∙ ap (λ (x : ℕ). eqb x (stamp_at n)) (get_or-take m.ring.used m.changes (row_for m.ring m.keys n.key) 0 here)

      known_lies : Lies m n
      unfolding laid_after
      known_lies =
          record {
            tells = rw (known_seen, known_has);
            leaves = rw (known_seen, ← held_mem, known);
            laid = rw (known_memory, ← held_mem, known) (ap (λ (l : List Row). record { rows = l; next = m.ring.first }) known_rows);
            whole = rw (known_memory, length-set m.changes (row_for m.ring m.keys n.key) (stamp_at n)) w;
            capacity = rw known_memory;
          }

  -- the key is new
  module _ (new : is_known m.ring m.keys n.key ≡ false) where
    new_holds : holds n.key (mem_of m) ≡ false
    new_holds = sym held_mem ∙ new

    new_memory :
        memory_after m n ≡ record { ring = (arrived m.ring).ring; keys = set m.keys (free_row m.ring) n.key; changes = set m.changes (free_row m.ring) (stamp_at n) }
    unfolding memory_after keys_after changes_after seen_of
    new_memory = rw new

    new_seen : seen_in m n ≡ arrived m.ring
    unfolding seen_of
    new_seen = rw new

    -- a row is free
    module _ (more : m.ring.used < room_of m.ring.capacity) where
      free : has_free m.ring ≡ true
      free = lt-ltb _ _ more

      pub more_memory :
          memory_after m n ≡ record { ring = ring_with m.ring (m.ring.used + 1) m.ring.first; keys = set m.keys m.ring.used n.key; changes = set m.changes m.ring.used (stamp_at n) }
      unfolding arrived
      more_memory = new_memory ∙ rw free

      module _ (small : n.change < 2 ^ 32) where
        more_rows :
            rows_of (take (m.ring.used + 1) (set m.keys m.ring.used n.key)) (take (m.ring.used + 1) (set m.changes m.ring.used (stamp_at n))) ≡ mem_of m ++ (n ∷ [])
        more_rows =
            let a : m.ring.used < length m.keys = omega (arith, w) in
            let b : m.ring.used < length m.changes = omega (arith, w) in
            rw (
              add-one m.ring.used,
              take-suc-set m.keys m.ring.used n.key a,
              take-suc-set m.changes m.ring.used (stamp_at n) b,
              rows_last (ks_of m) (ms_of m) n.key (stamp_at n) length_same,
              stamp_row n.key n.version n.change small,
            )

        more_lies : Lies m n
        unfolding laid_after arrived
        more_lies =
            record {
              tells = rw (new_seen, has_none n (mem_of m) new_holds);
              leaves = rw (new_seen, new_holds, full_mem);
              laid = rw (more_memory, new_holds, full_mem, free) (ap (λ (l : List Row). record { rows = l; next = m.ring.first }) more_rows);
              whole =
                  rw (more_memory, length-set m.keys m.ring.used n.key, length-set m.changes m.ring.used (stamp_at n))
                  (record { used = omega (arith, more); first = w.first; keys_long = w.keys_long; changes_long = w.changes_long });
              capacity = rw more_memory;
            }

    -- none is free
    module _ (full : room_of m.ring.capacity ≤ m.ring.used) where
      none_free : has_free m.ring ≡ false
      none_free = le-ltb _ _ full

      pub full_memory :
          memory_after m n ≡ record { ring = ring_with m.ring m.ring.used ((m.ring.first + 1) % room_of m.ring.capacity); keys = set m.keys m.ring.first n.key; changes = set m.changes m.ring.first (stamp_at n) }
      unfolding arrived
      full_memory = new_memory ∙ rw none_free

      module _ (small : n.change < 2 ^ 32) where
        full_rows :
            rows_of (take m.ring.used (set m.keys m.ring.first n.key)) (take m.ring.used (set m.changes m.ring.first (stamp_at n))) ≡ set (mem_of m) m.ring.first n
        full_rows =
            let f : m.ring.first < m.ring.used = omega (arith, w) in
            rw (
              take-set-lt m.ring.used m.keys m.ring.first n.key f,
              take-set-lt m.ring.used m.changes m.ring.first (stamp_at n) f,
              rows_set (ks_of m) (ms_of m) m.ring.first n.key (stamp_at n) length_same,
              stamp_row n.key n.version n.change small,
            )

        all : room_of m.ring.capacity ≡ length (mem_of m)
        all = omega (arith, w, length_mem)

        full_lies : Lies m n
        unfolding laid_after arrived
        full_lies =
            record {
              tells = rw (new_seen, has_none n (mem_of m) new_holds);
              leaves = rw (new_seen, new_holds, full_mem);
              laid =
                  rw (full_memory, new_holds, full_mem, none_free)
                  (λ i. record { rows = full_rows i; next = (m.ring.first + 1) % all i });
              whole =
                  rw (full_memory, length-set m.keys m.ring.first n.key, length-set m.changes m.ring.first (stamp_at n))
                  (record { used = w.used; first = mod-lt (m.ring.first + 1) (omega arith); keys_long = w.keys_long; changes_long = w.changes_long });
              capacity = rw full_memory;
            }

-- THE THEOREM: every offer to every ring that passes the test of 10
pub lies : (m : Memory) (n : Row) → Whole m.ring (length m.keys) (length m.changes) → n.change < 2 ^ 32 → Lies m n
lies m n w small = go (is_known m.ring m.keys n.key) refl
  where
    new : (t : Bool) → has_free m.ring ≡ t → is_known m.ring m.keys n.key ≡ false → Lies m n
    new true q h = more_lies m n w h (ltb-true _ _ q) small
    new false q h = full_lies m n w h (ltb-false _ _ q) small

    go : (t : Bool) → is_known m.ring m.keys n.key ≡ t → Lies m n
    go true e = known_lies m n w e small
    go false e = new (has_free m.ring) refl e

-- The ring with its index and the ring alone: from an opened store every sequence of offers tells the same and leaves the same rows.
-- Assumes nothing.
use Prim.Native.Nat.{ℕ, zero, suc, ◌+◌, ◌%◌, ◌^◌, ◌<◌, ◌≤◌}
use mathlib.Core.Path.{◌≡◌, refl, sym, ap, subst, ◌∙◌}
use mathlib.Core.List.{List, [], ◌∷◌}
use mathlib.Core.Bool.{Bool, true, false}
use lib.ListN.{length, get_or, take, set, length-set}
use lib.Seq.{length-take-le, get_or-take, get_or-set_same, get_or-set_other}
use lib.Dec.{ltb}
use native.Mathlib.Nat.{mod-lt}
use native.Mathlib.Omega.{arith}
use borrow.Author.Tests.{ltb-true, ltb-false, lt-ltb, le-ltb}
use Rattle.ring.specs.Store.{room_of, stamp_of, row_for, is_known, has_free, seen_of, keys_after, changes_after}
use Rattle.ring.specs.Rules.{Row}
use Rattle.ring.specs.View.{Memory, memory_after, rows_of, Reached}
use Rattle.ring.proofs.Rows.{count_turned}
use Rattle.ring.proofs.Order.{step, opened_reached}
use Rattle.ring.proofs.Places.{known_memory, more_memory, full_memory}
use Rattle.ring_index.specs.Store.{bucket_of, Covers, Index, cleared_by, linked, unlinked, entered, found_by, is_found, seen_by, keys_by, changes_by, index_by}
use Rattle.ring_index.specs.Runs.{Indexed, Short, more, indexed_after, all_told_by, all_told_of, all_left_by, all_left_of, opened_memory, opened_index}
use Rattle.ring_index.proofs.Chains.{All, Holds, chain, all_map, all_chain, chain_length, walk_reads, link_holds, unlink_holds, linked_buckets, linked_links, unlinked_buckets, unlinked_links}
use Rattle.ring_index.proofs.Newest.{newest, newer, newest_used, newest_length, newest_free, newest_full, newer_lacks, newest_turned, pick_chain, pick_newest, row_within, row_key_lem, row_once}

-- the bucket of each row
abbrev pub home_in : List ℕ → ℕ → ℕ → ℕ
home_in keys room i = bucket_of (get_or keys i 0) room

-- the index of a memory: a bucket and a link for each row, and the chain of each bucket is the rows in use whose keys it has, the newest first
pub record Sound (m : Memory) (x : Index) : Type 0 where
  pub covers : Covers m.ring (length x.buckets) (length x.links)
  pub holds : Holds x (home_in m.keys (room_of m.ring.capacity)) (newest m.ring.first m.ring.used) (room_of m.ring.capacity)

bucket_within : (key room : ℕ) → 0 < room → bucket_of key room < room
unfolding bucket_of
bucket_within key room h = mod-lt _ h

module _ (m : Memory) (r : Reached m) where
  first_used : m.ring.first ≤ m.ring.used
  first_used = go (ltb m.ring.used (room_of m.ring.capacity)) refl
    where
      go : (t : Bool) → ltb m.ring.used (room_of m.ring.capacity) ≡ t → m.ring.first ≤ m.ring.used
      go true e = omega (arith, r.young (ltb-true m.ring.used (room_of m.ring.capacity) e))
      go false e = omega (arith, r.whole, ltb-false m.ring.used (room_of m.ring.capacity) e)

  -- a key stands in one row at most
  one_row_lem : (key j : ℕ) → j < m.ring.used → get_or m.keys j 0 ≡ key → row_for m.ring m.keys key ≡ j
  one_row_lem key j h e =
      let a : length (take m.ring.used m.keys) ≡ m.ring.used = length-take-le m.ring.used m.keys (omega (arith, r.whole)) in
      let b : length (take m.ring.used m.changes) ≡ m.ring.used = length-take-le m.ring.used m.changes (omega (arith, r.whole)) in
      row_once (take m.ring.used m.keys) (take m.ring.used m.changes) key j (a ∙ sym b)
      (omega (arith, r.once key, count_turned key m.ring.first (rows_of (take m.ring.used m.keys) (take m.ring.used m.changes))))
      (omega arith) (get_or-take m.ring.used m.keys j 0 h ∙ e)

  its_key : (key : ℕ) → row_for m.ring m.keys key < m.ring.used → get_or m.keys (row_for m.ring m.keys key) 0 ≡ key
  its_key key h =
      let a : length (take m.ring.used m.keys) ≡ m.ring.used = length-take-le m.ring.used m.keys (omega (arith, r.whole)) in
      sym (get_or-take m.ring.used m.keys (row_for m.ring m.keys key) 0 h) ∙ row_key_lem (take m.ring.used m.keys) key (omega arith)

  row_used : (key : ℕ) → row_for m.ring m.keys key ≤ m.ring.used
  row_used key =
      omega (arith, row_within (take m.ring.used m.keys) key, length-take-le m.ring.used m.keys (omega (arith, r.whole)))

  module _ (x : Index) (s : Sound m x) where
    -- the walk finds the row that the search finds
    pub found_same : (key : ℕ) → found_by m.ring m.keys x key ≡ row_for m.ring m.keys key
    found_same key =
        let b = bucket_of key (room_of m.ring.capacity) in
        let rows = newest m.ring.first m.ring.used in
        let home = home_in m.keys (room_of m.ring.capacity) in
        let n : length rows ≡ m.ring.used = newest_length m.ring.first m.ring.used first_used in
        walk_reads m.keys x.links m.ring.used key (room_of m.ring.capacity) (get_or x.buckets b 0) (chain home b rows)
        (s.holds b (bucket_within key (room_of m.ring.capacity) (omega arith))) (omega (arith, chain_length home b rows, r.whole))
        (all_chain home b rows (newest_used m.ring.first m.ring.used first_used))
        ∙ pick_chain m.keys m.ring.used key (room_of m.ring.capacity) rows
        ∙ pick_newest m.keys m.ring.used key (row_for m.ring m.keys key) (one_row_lem key) m.ring.first first_used (row_used key) (its_key key)

    module _ (key number : ℕ) where
      pub seen_same : seen_by m.ring m.keys m.changes x key number ≡ seen_of m.ring m.keys m.changes key number
      unfolding seen_by seen_of
      seen_same = rw (found_same key)

      pub keys_same : keys_by m.ring m.keys x key ≡ keys_after m.ring m.keys key
      unfolding keys_by keys_after
      keys_same = rw (found_same key)

      pub changes_same : changes_by m.ring m.keys m.changes x key number ≡ changes_after m.ring m.keys m.changes key number
      unfolding changes_by changes_after
      changes_same = rw (found_same key)

-- a row gets another key: the buckets of the others stay
other_home : (keys : List ℕ) (room row key i : ℕ) → (i ≡ row → ⊥) → home_in (set keys row key) room i ≡ home_in keys room i
other_home keys room row key i h = ap (λ (k : ℕ). bucket_of k room) (get_or-set_other keys row i key 0 h)

own_home : (keys : List ℕ) (room row key : ℕ) → row < length keys → home_in (set keys row key) room row ≡ bucket_of key room
own_home keys room row key h = ap (λ (k : ℕ). bucket_of k room) (get_or-set_same keys row key 0 h)

-- a row that is in no chain gets a key and is linked
arrive_holds :
    (x : Index) (keys rows : List ℕ) (room row key : ℕ) → Holds x (home_in keys room) rows room → All (λ i. i ≡ row → ⊥) rows → 0 < room →
    room ≤ length x.buckets → row < length x.links → row < length keys →
    Holds (linked x (bucket_of key room) row) (home_in (set keys row key) room) (row ∷ rows) room
arrive_holds x keys rows room row key holds lacks some buckets_long links_long keys_long =
    let e : home_in (set keys row key) room row ≡ bucket_of key room = own_home keys room row key keys_long in
    let h : home_in (set keys row key) room row < length x.buckets = omega (arith, bucket_within key room some) in
    subst (λ (b : ℕ). Holds (linked x b row) (home_in (set keys row key) room) (row ∷ rows) room) e
    (link_holds x (home_in keys room) (home_in (set keys row key) room) rows room row holds lacks (other_home keys room row key) h links_long)

-- every offer leaves a sound index
module _ (m : Memory) (x : Index) (n : Row) (r : Reached m) (s : Sound m x) (small : n.change < 2 ^ 32) where
  pub found_known : is_found m.ring m.keys x n.key ≡ is_known m.ring m.keys n.key
  found_known = ap (λ (k : ℕ). ltb k m.ring.used) (found_same m r x s n.key)

  index_known : is_known m.ring m.keys n.key ≡ true → index_by m.ring m.keys x n.key ≡ x
  unfolding index_by
  index_known k = rw (found_known, k)

  index_new :
      is_known m.ring m.keys n.key ≡ false → index_by m.ring m.keys x n.key ≡ entered m.ring m.keys x (bucket_of n.key (room_of m.ring.capacity))
  unfolding index_by
  index_new k = rw (found_known, k)

  known_sound : is_known m.ring m.keys n.key ≡ true → Sound (memory_after m n) (index_by m.ring m.keys x n.key)
  known_sound k = rw (index_known k, known_memory m n r.whole k) (record { covers = s.covers; holds = s.holds })

  module _ (new : is_known m.ring m.keys n.key ≡ false) where
    index_free :
        m.ring.used < room_of m.ring.capacity →
        index_by m.ring m.keys x n.key ≡ linked x (bucket_of n.key (room_of m.ring.capacity)) m.ring.used
    unfolding entered
    index_free h = index_new new ∙ rw (lt-ltb m.ring.used (room_of m.ring.capacity) h)

    taken : Index
    taken =
        unlinked x m.ring.used (room_of m.ring.capacity) (home_in m.keys (room_of m.ring.capacity) m.ring.first) m.ring.first

    index_full :
        room_of m.ring.capacity ≤ m.ring.used →
        index_by m.ring m.keys x n.key ≡ linked taken (bucket_of n.key (room_of m.ring.capacity)) m.ring.first
    unfolding entered taken
    index_full h = index_new new ∙ rw (le-ltb m.ring.used (room_of m.ring.capacity) h)

    free_sound : m.ring.used < room_of m.ring.capacity → Sound (memory_after m n) (index_by m.ring m.keys x n.key)
    free_sound h =
        let y : m.ring.first ≡ 0 = r.young h in
        rw (index_free h, more_memory m n r.whole new h)
        (record {
          covers = record {
            buckets_long = omega (arith, s.covers, linked_buckets x (bucket_of n.key (room_of m.ring.capacity)) m.ring.used);
            links_long = omega (arith, s.covers, linked_links x (bucket_of n.key (room_of m.ring.capacity)) m.ring.used);
          };
          holds =
              rw (y, newest_free m.ring.used)
              (arrive_holds x m.keys (newest 0 m.ring.used) (room_of m.ring.capacity) m.ring.used n.key (rw y at s.holds)
              (all_map (λ i p q. omega arith) (newest_used 0 m.ring.used (omega arith))) (omega arith) s.covers.buckets_long
              (omega (arith, s.covers)) (omega (arith, r.whole)));
        })

    full_sound : room_of m.ring.capacity ≤ m.ring.used → Sound (memory_after m n) (index_by m.ring m.keys x n.key)
    unfolding taken
    full_sound h =
        let f : m.ring.first < m.ring.used = omega (arith, r.whole) in
        let u : m.ring.used ≡ room_of m.ring.capacity = omega (arith, r.whole) in
        let home = home_in m.keys (room_of m.ring.capacity) in
        let e = newest_full m.ring.first m.ring.used f in
        let t : Holds taken (home_in m.keys (room_of m.ring.capacity)) (newer m.ring.first m.ring.used) (room_of m.ring.capacity) =
        unlink_holds x home (newer m.ring.first m.ring.used) m.ring.used (room_of m.ring.capacity) m.ring.first
        (rw e at s.holds)
        (newer_lacks m.ring.first m.ring.used f)
        (rw e at (newest_used m.ring.first m.ring.used (omega arith)))
        (omega (arith, rw e at (newest_length m.ring.first m.ring.used (omega arith))))
        (omega (arith, s.covers))
        (bucket_within (get_or m.keys m.ring.first 0) (room_of m.ring.capacity) (omega arith))
        s.covers.buckets_long in
        let lb : length taken.buckets ≡ length x.buckets =
        unlinked_buckets x m.ring.used (room_of m.ring.capacity) (home_in m.keys (room_of m.ring.capacity) m.ring.first) m.ring.first in
        let ll : length taken.links ≡ length x.links =
        unlinked_links x m.ring.used (room_of m.ring.capacity) (home_in m.keys (room_of m.ring.capacity) m.ring.first) m.ring.first in
        rw (index_full h, full_memory m n r.whole new h)
        (record {
          covers = record {
            buckets_long = omega (arith, s.covers, linked_buckets taken (bucket_of n.key (room_of m.ring.capacity)) m.ring.first);
            links_long = omega (arith, s.covers, linked_links taken (bucket_of n.key (room_of m.ring.capacity)) m.ring.first);
          };
          holds =
              rw (ap (λ (k : ℕ). newest ((m.ring.first + 1) % k) m.ring.used) (sym u) ∙ newest_turned m.ring.first m.ring.used f)
              (arrive_holds taken m.keys (newer m.ring.first m.ring.used) (room_of m.ring.capacity) m.ring.first n.key t
              (newer_lacks m.ring.first m.ring.used f) (omega arith) (omega (arith, s.covers))
              (omega (arith, s.covers)) (omega (arith, r.whole)));
        })

  pub sound_after : Sound (memory_after m n) (index_by m.ring m.keys x n.key)
  sound_after = go (is_known m.ring m.keys n.key) refl
    where
      fresh : (t : Bool) → has_free m.ring ≡ t → is_known m.ring m.keys n.key ≡ false → Sound (memory_after m n) (index_by m.ring m.keys x n.key)
      fresh true q k = free_sound k (ltb-true _ _ q)
      fresh false q k = full_sound k (ltb-false _ _ q)

      go : (t : Bool) → is_known m.ring m.keys n.key ≡ t → Sound (memory_after m n) (index_by m.ring m.keys x n.key)
      go true e = known_sound e
      go false e = fresh (has_free m.ring) refl e

-- ---- a sequence of offers

-- one after another
pub record Agree (m : Memory) (x : Index) (offers : List Row) : Type 0 where
  pub told : all_told_by (record { memory = m; index = x }) offers ≡ all_told_of m offers
  pub left : (all_left_by (record { memory = m; index = x }) offers).memory ≡ all_left_of m offers

module _ (m : Memory) (x : Index) (n : Row) (r : Reached m) (s : Sound m x) where
  pub after_same :
      indexed_after (record { memory = m; index = x }) n ≡ record { memory = memory_after m n; index = index_by m.ring m.keys x n.key }
  unfolding indexed_after memory_after
  after_same =
      rw (
        seen_same m r x s n.key (stamp_of n.version n.change),
        keys_same m r x s n.key 0,
        changes_same m r x s n.key (stamp_of n.version n.change),
      )

pub agree : (offers : List Row) → Short offers → (m : Memory) (x : Index) → Reached m → Sound m x → Agree m x offers
agree [] h m x r s = record { told = refl; left = refl }
agree (n ∷ offers) (more p h) m x r s =
    let a = agree offers h (memory_after m n) (index_by m.ring m.keys x n.key) (step m n r p).reached (sound_after m x n r s p) in
    record {
      told = rw (after_same m x n r s, seen_same m r x s n.key (stamp_of n.version n.change), a.told);
      left = ap (λ (k : Indexed). (all_left_by k offers).memory) (after_same m x n r s) ∙ a.left;
    }

-- ---- an opened store

cleared_past : (n : ℕ) (l : List ℕ) (i : ℕ) → n ≤ i → get_or (cleared_by n l) i 0 ≡ get_or l i 0
cleared_past zero l i h = refl
cleared_past (suc n) l i h = cleared_past n (set l n 0) i (omega arith) ∙ get_or-set_other l n i 0 0 (λ e. omega arith)

cleared_length : (n : ℕ) (l : List ℕ) → length (cleared_by n l) ≡ length l
cleared_length zero l = refl
cleared_length (suc n) l = cleared_length n (set l n 0) ∙ length-set l n 0

cleared_none : (n : ℕ) (l : List ℕ) (i : ℕ) → i < n → n ≤ length l → get_or (cleared_by n l) i 0 ≡ 0
cleared_none zero l i h g = absurd (omega arith)
cleared_none (suc n) l i h g = go (ltb i n) refl (cleared_none n (set l n 0) i)
  where
    go : (t : Bool) → ltb i n ≡ t → (i < n → n ≤ length (set l n 0) → get_or (cleared_by n (set l n 0)) i 0 ≡ 0) → get_or (cleared_by n (set l n 0)) i 0 ≡ 0
    go true e f = f (ltb-true i n e) (omega (arith, length-set l n 0))
    go false e f =
        let q : i ≡ n = omega (arith, ltb-false i n e) in
        rw q (cleared_past n (set l n 0) n (omega arith) ∙ get_or-set_same l n 0 0 (omega arith))

module _ (capacity : ℕ) (keys changes buckets links : List ℕ) where
  pub opened_sound :
      room_of capacity ≤ length buckets → room_of capacity ≤ length links → Sound (opened_memory capacity keys changes) (opened_index capacity buckets links)
  opened_sound b l =
      record {
        covers = record { buckets_long = omega (arith, cleared_length (room_of capacity) buckets); links_long = l };
        holds = λ i h. cleared_none (room_of capacity) buckets i h b;
      }

  -- whatever the slices held: through the index every offer tells what the ring alone tells, and the rows are the same after all of them
  pub opened_agree :
      room_of capacity ≤ length keys → room_of capacity ≤ length changes → room_of capacity ≤ length buckets → room_of capacity ≤ length links →
      (offers : List Row) → Short offers → Agree (opened_memory capacity keys changes) (opened_index capacity buckets links) offers
  opened_agree k c b l offers h =
      agree offers h (opened_memory capacity keys changes) (opened_index capacity buckets links) (opened_reached capacity keys changes k c) (opened_sound b l)

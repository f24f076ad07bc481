-- A gate with an index that can judge n + 1 more sections can judge n more after one, whatever it is.
-- Assumes nothing.
use mathlib.Core.Path.{◌≡◌, refl, ap, ◌∙◌}
use mathlib.Core.Bool.{Bool, true, false, cond, ◌&&◌}
use mathlib.Core.List.{List}
use Prim.Native.Nat.{ℕ, suc, ◌+◌, ◌%◌, ◌≤◌, ◌<◌}
use native.Mathlib.Omega.{arith}
use lib.ListN.{length, get_or}
use Rattle.ring.specs.Store.{room_of, has_free, ring_with, renewed, arrived, stamp_of, Whole}
use Rattle.ring.specs.declared.Ring.{Ring}
use Rattle.ring.specs.declared.Seen.{Seen}
use Rattle.ring_index.specs.Store.{Index, Covers, bucket_of, linked, unlinked, entered, found_by, is_found, seen_by, keys_by, changes_by, index_by}
use Rattle.ring_index.proofs.Chains.{linked_buckets, linked_links, unlinked_buckets, unlinked_links}
use Rattle.offers.specs.Offers.{verdict_of}
use Rattle.offers.specs.declared.Verdict.{Verdict}
use Rattle.offers.specs.declared.Verdict.TheVariants as verdict
use Rattle.gate_state.specs.State.{seen_by as answered_by}
use Rattle.gate.specs.Store.{is_whole}
use Rattle.gate.proofs.Laws.{fits}
use Rattle.gate_indexed.specs.Store.{Indexed, Offering, is_whole_by, admitted_by, carried_by, offered_by}
use Rattle.gate_pats_indexed.specs.Store.{KeptBy, sections_by, taken_by}
use Rattle.gate_pats_indexed.proofs.Laws.{words_kept}
use Rattle.demux_state.specs.State.{Spare}
use Rattle.demux_steady.proofs.Sections.{Stays, row_stays, seen_stays, same_stays, failed_stays}
use Rattle.demux_steady.proofs.Steady as plain
use Rattle.demux_indexed_turns.specs.Acts.{acts_by}
use Rattle.demux_indexed_turns.specs.Offers.{SteadyBy}

-- ---- the index

-- after a key, the slices of an index are as long as they were
record SameIndex (x y : Index) : Type 0 where
  pub buckets : length y.buckets ≡ length x.buckets
  pub links : length y.links ≡ length x.links

index_length : (g : Ring) (keys : List ℕ) (x : Index) (key : ℕ) → SameIndex x (index_by g keys x key)
unfolding index_by entered
index_length g keys x key = go (is_found g keys x key)
  where
    home : ℕ
    home = bucket_of key (room_of g.capacity)

    last : ℕ
    last = bucket_of (get_or keys g.first 0) (room_of g.capacity)

    y : Index
    y = unlinked x g.used (room_of g.capacity) last g.first

    free : (b : Bool) → SameIndex x (cond b (linked x home g.used) (linked y home g.first))
    free true = record { buckets = linked_buckets x home g.used; links = linked_links x home g.used }
    free false = record {
      buckets = linked_buckets y home g.first ∙ unlinked_buckets x g.used (room_of g.capacity) last g.first;
      links = linked_links y home g.first ∙ unlinked_links x g.used (room_of g.capacity) last g.first;
    }

    go : (b : Bool) → SameIndex x (cond b x (cond (has_free g) (linked x home g.used) (linked y home g.first)))
    go true = record { buckets = refl; links = refl }
    go false = free (has_free g)

-- the capacity stays
same_room : (g : Ring) (changes : List ℕ) (known : Bool) (row number : ℕ) → (cond known (renewed g changes row number) (arrived g)).ring.capacity ≡ g.capacity
unfolding renewed arrived
same_room g changes true row number = refl
same_room g changes false row number = go (has_free g)
  where
    go : (b : Bool) → (cond b (ring_with g (g.used + 1) g.first) (ring_with g g.used ((g.first + 1) % room_of g.capacity))).capacity ≡ g.capacity
    go true = refl
    go false = refl

covers_then : (g h : Ring) (x y : Index) → h.capacity ≡ g.capacity → SameIndex x y → Covers g (length x.buckets) (length x.links) → Covers h (length y.buckets) (length y.links)
covers_then g h x y r l v =
    let e : room_of h.capacity ≡ room_of g.capacity = ap room_of r in
    record { buckets_long = omega (arith, e, l.buckets, v.buckets_long); links_long = omega (arith, e, l.links, v.links_long) }

-- ---- an offer

record StaysBy (n : ℕ) (s t : Indexed) : Type 0 where
  pub store : Stays n s.store t.store
  pub covers : Covers t.store.gate.ring (length t.index.buckets) (length t.index.links)

module _ (n : ℕ) (s : Indexed) (w : is_whole s.store ≡ true) (c : Spare (suc n) s.store.counters) (v : Covers s.store.gate.ring (length s.index.buckets) (length s.index.links)) (section : List ℕ) where
  abbrev g : Ring
  g = s.store.gate.ring

  found_stays : (key number : ℕ) → Whole (seen_by g s.store.keys s.store.changes s.index key number).ring (length (keys_by g s.store.keys s.index key)) (length (changes_by g s.store.keys s.store.changes s.index key number))
  unfolding seen_by keys_by changes_by
  found_stays key number =
      row_stays g s.store.keys s.store.changes key number
      (fits s.store.gate (length s.store.keys) (length s.store.changes) (length s.store.words) (is_whole s.store) refl w).rows
      (is_found g s.store.keys s.index key) (found_by g s.store.keys s.index key)

  found_room : (key number : ℕ) → (seen_by g s.store.keys s.store.changes s.index key number).ring.capacity ≡ g.capacity
  unfolding seen_by
  found_room key number = same_room g s.store.changes (is_found g s.store.keys s.index key) (found_by g s.store.keys s.index key) number

  carried_stays : (d : Verdict) → StaysBy n s (carried_by s section d).left
  unfolding carried_by admitted_by answered_by
  carried_stays (verdict.Refused r) = record { store = same_stays n s.store w c section; covers = v }
  carried_stays (verdict.Failed f) = record { store = failed_stays n s.store w c section f; covers = v }
  carried_stays (verdict.Arrived a) =
      let number : ℕ = stamp_of a.version a.change in
      let seen : Seen = seen_by g s.store.keys s.store.changes s.index a.key number in
      record {
        store = seen_stays n s.store w c section seen (keys_by g s.store.keys s.index a.key) (changes_by g s.store.keys s.store.changes s.index a.key number) (found_stays a.key number);
        covers = covers_then g seen.ring s.index (index_by g s.store.keys s.index a.key) (found_room a.key number) (index_length g s.store.keys s.index a.key) v;
      }

  offered_stays : (input pid : ℕ) → StaysBy n s (offered_by s input pid section).left
  unfolding offered_by
  offered_stays input pid = carried_stays (verdict_of (is_whole_by s) s.store.counters s.store.gate.change_rule input pid section)

-- ---- behind it the PAT store

pub steady_next : (n : ℕ) (s : KeptBy) → SteadyBy (suc n) s → (input pid : ℕ) (section : List ℕ) → get_or section 7 0 < 256 → SteadyBy n (acts_by s input pid section)
unfolding taken_by
steady_next n s o input pid section b =
    let x : Offering = offered_by (sections_by s) input pid section in
    let t = offered_stays n (sections_by s) o.kept.whole o.kept.spare o.covers section input pid in
    record {
      kept = plain.steady_after n s.kept o.kept input pid section b x.answer x.left.store t.store (λ h. words_kept (sections_by s) section h input pid);
      covers = t.covers;
    }

pub fewer : (m n : ℕ) → n ≤ m → (s : KeptBy) → SteadyBy m s → SteadyBy n s
fewer m n h s o = record { kept = plain.fewer m n h s.kept o.kept; covers = o.covers }

-- One law for each way out of a function: what the tests and the calls on the way gave, and what the definition then is.
-- Assumes nothing.
use Prim.Native.Nat.{ℕ, zero, suc, ◌+◌, ◌-◌, ◌<◌, ◌≤◌}
use mathlib.Core.Path.{◌≡◌, refl, sym, ap, ◌∙◌}
use mathlib.Core.List.{List, [], ◌∷◌, ◌++◌, append_assoc}
use mathlib.Core.Bool.{true, false, cond}
use native.Mathlib.Nat.{zero-add}
use native.Mathlib.Numerals.{add-one}
use lib.ListN.{length, get_or, set, drop, replicate, length-set}
use lib.Seq.{paste}
use Rattle.std.proofs.lemmas.List.{drop-set, replicate_more, take-replicate}
use lib.Dec.{ltb, eqb}
use native.Mathlib.Omega.{arith}
use borrow.Author.Tests.{ltb-false, eqb-false, eq-eqb, ne_eqb, lt-ltb, le-ltb}
use Rattle.laws.proofs.Tests.{or_false}
use Rattle.ring.specs.Store.{room_of, free_row, renewed, arrived}
use Rattle.ring.specs.declared.Ring.{Ring}
use Rattle.ring.specs.declared.Seen.{Seen}
use Rattle.ring_index.specs.Store.{bucket_of, Index, index_of, ends, walk_of, cleared_by, linked, unlinked, entered, found_by, seen_by, keys_by, changes_by, index_by}

pub record Names (used at : ℕ) : Type 0 where
  pub some : 1 ≤ at
  pub within : at ≤ used

-- a word that does not end the chain names a row in use
pub names : (used at : ℕ) → ends used at ≡ false → Names used at
names used at e =
    let p = or_false (eqb at 0) (ltb used at) e in
    let q : at ≡ 0 → ⊥ = eqb-false at 0 p.0 in
    record { some = omega arith; within = ltb-false used at p.1 }

-- a walk of at most `room` steps, of which `n` were taken
module _ (words links : List ℕ) (used value whole room n at : ℕ) (more : n < room) (inv : whole ≡ walk_of words links used value (room - n) at) where
  turn : (left : ℕ) → room - n ≡ left → 0 < left →
      whole ≡ cond (ends used at) used (cond (eqb (get_or words (at - 1) 0) value) (at - 1) (walk_of words links used value (left - 1) (get_or links (at - 1) 0)))
  turn zero e h = absurd (omega arith)
  turn (suc left) e h = let q : suc left - 1 ≡ left = omega arith in rw q (rw e at inv)

  pub walk_end : ends used at ≡ true → used ≡ whole
  walk_end e = rw e at (sym (turn (room - n) refl (omega arith)))

  module _ (e : ends used at ≡ false) where
    pub walk_found : get_or words (at - 1) 0 ≡ value → at - 1 ≡ whole
    walk_found h = rw (e, eq-eqb _ _ h) at (sym (turn (room - n) refl (omega arith)))

    pub walk_more : (get_or words (at - 1) 0 ≡ value → ⊥) → whole ≡ walk_of words links used value (room - (n + 1)) (get_or links (at - 1) 0)
    walk_more h =
        let q : room - n - 1 ≡ room - (n + 1) = omega arith in
        rw (e, ne_eqb _ _ h, q) at (turn (room - n) refl (omega arith))

pub walk_none : (words links : List ℕ) (used value whole room n at : ℕ) → room ≤ n → whole ≡ walk_of words links used value (room - n) at → used ≡ whole
walk_none words links used value whole room n at h e = let q : room - n ≡ 0 = omega arith in rw q at (sym e)

-- zeros in the place of the first n words
cleared_zeros : (n : ℕ) (l : List ℕ) → n ≤ length l → replicate n 0 ++ drop n l ≡ cleared_by n l
cleared_zeros zero l h = refl
cleared_zeros (suc n) l h =
    let r : replicate n 0 ++ 0 ∷ [] ≡ replicate (suc n) 0 = replicate_more {X = ℕ} n 0 ∙ ap (λ (k : ℕ). replicate k 0) (add-one n) in
    let d : 0 ∷ drop (suc n) l ≡ drop n (set l n 0) = ap (λ (k : ℕ). 0 ∷ drop k l) (sym (add-one n)) ∙ sym (drop-set {X = ℕ} l n 0 (omega arith)) in
    ap (λ (z : List ℕ). z ++ drop (suc n) l) (sym r) ∙ append_assoc (replicate n 0) (0 ∷ []) (drop (suc n) l) ∙ ap (λ (z : List ℕ). replicate n 0 ++ z) d
    ∙ cleared_zeros n (set l n 0) (omega (arith, length-set l n 0))

pub cleared_part : (n : ℕ) (l : List ℕ) → n ≤ length l → paste l 0 (replicate n 0) n ≡ cleared_by n l
cleared_part n l h = rw (take-replicate {X = ℕ} n n 0 (omega arith), zero-add n) (cleared_zeros n l h)

module _ (buckets links : List ℕ) (used room home row : ℕ) where
  pub unlink_head :
      get_or buckets home 0 ≡ row + 1 → index_of (set buckets home (get_or links row 0)) links ≡ unlinked (index_of buckets links) used room home row
  unfolding unlinked
  unlink_head e = rw (eq-eqb _ _ e)

  module _ (e : get_or buckets home 0 ≡ row + 1 → ⊥) (p : ℕ) (q : p ≡ walk_of links links used (row + 1) room (get_or buckets home 0)) where
    pub unlink_next : p < used → index_of buckets (set links p (get_or links row 0)) ≡ unlinked (index_of buckets links) used room home row
    unfolding unlinked
    unlink_next h = rw (ne_eqb _ _ e, ← q, lt-ltb _ _ h)

    pub unlink_none : used ≤ p → index_of buckets links ≡ unlinked (index_of buckets links) used room home row
    unfolding unlinked
    unlink_none h = rw (ne_eqb _ _ e, ← q, le-ltb _ _ h)

module _ (g : Ring) (keys : List ℕ) (x y : Index) (home room : ℕ) (e : room ≡ room_of g.capacity) where
  pub enter_free : g.used < room → y ≡ linked x home g.used → y ≡ entered g keys x home
  unfolding entered
  enter_free h j = rw (← e, lt-ltb _ _ h) j

  pub enter_full :
      (old : ℕ) (z : Index) → room ≤ g.used → old ≡ bucket_of (get_or keys g.first 0) room → z ≡ unlinked x g.used room old g.first →
      y ≡ linked z home g.first → y ≡ entered g keys x home
  unfolding entered
  enter_full old z h o k j = rw (← e, le-ltb _ _ h, ← o, ← k) j

module _
    (g : Ring)
    (keys changes buckets links : List ℕ)
    (key number room home i n : ℕ)
    (r : room ≡ room_of g.capacity)
    (b : home ≡ bucket_of key room)
    (w : i ≡ walk_of keys links g.used key room (get_or buckets home 0))
  where
    found : found_by g keys (index_of buckets links) key ≡ i
    found = rw (← r, ← b) (sym w)

    module _ (h : i < g.used) where
      pub seen_found : (o : Seen) → n ≡ number → o ≡ renewed g changes i n → o ≡ seen_by g keys changes (index_of buckets links) key number
      unfolding seen_by
      seen_found o q j = rw (found, lt-ltb _ _ h, ← q) j

      pub keys_found : keys ≡ keys_by g keys (index_of buckets links) key
      unfolding keys_by
      keys_found = rw (found, lt-ltb _ _ h)

      pub changes_found : (ms : List ℕ) → n ≡ number → ms ≡ set changes i n → ms ≡ changes_by g keys changes (index_of buckets links) key number
      unfolding changes_by
      changes_found ms q j = rw (found, lt-ltb _ _ h, ← q) j

      pub index_found : index_of buckets links ≡ index_by g keys (index_of buckets links) key
      unfolding index_by
      index_found = rw (found, lt-ltb _ _ h)

    module _ (h : g.used ≤ i) where
      pub seen_arrived : (o : Seen) → o ≡ arrived g → o ≡ seen_by g keys changes (index_of buckets links) key number
      unfolding seen_by
      seen_arrived o j = rw (found, le-ltb _ _ h) j

      pub keys_arrived : (ks : List ℕ) → ks ≡ set keys (free_row g) key → ks ≡ keys_by g keys (index_of buckets links) key
      unfolding keys_by
      keys_arrived ks j = rw (found, le-ltb _ _ h) j

      pub changes_arrived :
          (ms : List ℕ) → n ≡ number → ms ≡ set changes (free_row g) n → ms ≡ changes_by g keys changes (index_of buckets links) key number
      unfolding changes_by
      changes_arrived ms q j = rw (found, le-ltb _ _ h, ← q) j

      pub index_arrived : (y : Index) → y ≡ entered g keys (index_of buckets links) home → y ≡ index_by g keys (index_of buckets links) key
      unfolding index_by
      index_arrived y j = rw (found, le-ltb _ _ h, ← r, ← b) j

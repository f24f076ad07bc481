-- One law for each way out of a function that looks for a section's place, and what a place may be.
-- Assumes nothing.
use mathlib.Core.Path.{◌≡◌, refl, sym, ap, subst, ◌∙◌}
use mathlib.Core.List.{List}
use mathlib.Core.Bool.{Bool, true, false, cond, ◌&&◌, true≢false}
use Prim.Native.Nat.{ℕ, ◌+◌, ◌-◌, ◌*◌, ◌≤◌, ◌<◌}
use native.Mathlib.Omega.{arith}
use borrow.Author.Tests.{eq-eqb, ne_eqb, lt-ltb, le-ltb, ltb-true, ltb-false}
use lib.Dec.{eqb, ltb}
use lib.ListN.{length, take, drop, get_or}
use Rattle.laws.specs.Lists.{same_list}
use Rattle.cells.specs.Cells.{kept_length, cell_number, kept}
use Rattle.rows.specs.Rows.{oldest_of, row_of, room_in, room_renewed, room_new, slots_at, last_of, version_of}
use Rattle.rows.specs.declared.Entry.{Entry}
use Rattle.rows.specs.declared.Room.{Room}
use Rattle.store.specs.Store.{Store, Whole}
use Rattle.rows.proofs.Least.{oldest_below}
use Rattle.placing.specs.declared.Place.{Place}
use Rattle.placing.specs.declared.Place.TheVariants.{Conflict, Repeat, Goes}
use Rattle.placing.specs.Places.{place_slot, place_known, place_of, RoomOk, PlaceOk}

pub slot_empty : (s : Store) (bytes : List ℕ) (i w n : ℕ) (r : Room) → n ≡ kept_length w → n ≡ 0 → r ≡ room_in s.sets.used s.sets.evictions i → Goes r ≡ place_slot s bytes i w
unfolding place_slot
slot_empty s bytes i w n r f z e = rw (← f, eq-eqb n 0 z, e)

module _ (s : Store) (bytes : List ℕ) (i w n c : ℕ) (b : Bool) (f : n ≡ kept_length w) (g : c ≡ cell_number w) (z : n ≡ 0 → ⊥)
    (q : b ≡ same_list (take (c * s.sets.size + n - c * s.sets.size) (drop (c * s.sets.size) s.cells)) bytes) where
  part_is : b ≡ same_list (kept s.cells s.sets.size w) bytes
  part_is = let k : c * s.sets.size + n - c * s.sets.size ≡ n = omega arith in q ∙ rw (k, f, g)

  pub slot_same : b ≡ true → Repeat i ≡ place_slot s bytes i w
  unfolding place_slot
  slot_same t = rw (← part_is, t, ← f, ne_eqb n 0 z)

  pub slot_other : b ≡ false → Conflict i ≡ place_slot s bytes i w
  unfolding place_slot
  slot_other t = rw (← part_is, t, ← f, ne_eqb n 0 z)

pub known_same : (s : Store) (e : Entry) (bytes : List ℕ) (i v l w : ℕ) (p : Place) → v ≡ version_of s.heads i → l ≡ last_of s.heads i → (eqb v e.version && eqb l e.last) ≡ true
    → w ≡ get_or s.slots (slots_at i + e.number) 0 → p ≡ place_slot s bytes i w → p ≡ place_known s e bytes i
unfolding place_known
known_same s e bytes i v l w p a b t f q = rw (← a, ← b, t, ← f) q

pub known_other : (s : Store) (e : Entry) (bytes : List ℕ) (i v l : ℕ) (r : Room) → v ≡ version_of s.heads i → l ≡ last_of s.heads i → (eqb v e.version && eqb l e.last) ≡ false
    → r ≡ room_renewed s.sets.used s.sets.evictions i → Goes r ≡ place_known s e bytes i
unfolding place_known
known_other s e bytes i v l r f g t q = rw (← f, ← g, t, q)

pub place_known_lem : (s : Store) (e : Entry) (bytes : List ℕ) (i : ℕ) (p : Place) → i ≡ row_of s.heads e.key s.sets.used → i < s.sets.used → p ≡ place_known s e bytes i → p ≡ place_of s e bytes
unfolding place_of
place_known_lem s e bytes i p f h q = rw (← f, lt-ltb i s.sets.used h) q

pub place_new_lem : (s : Store) (e : Entry) (bytes : List ℕ) (i : ℕ) (r : Room) → i ≡ row_of s.heads e.key s.sets.used → s.sets.used ≤ i
    → r ≡ room_new s.heads s.sets.limit s.sets.used s.sets.evictions → Goes r ≡ place_of s e bytes
unfolding place_of
place_new_lem s e bytes i r f h g = rw (← f, le-ltb i s.sets.used h, ← g)

-- ---- a place is a row in use, or room within the limit

module _ (s : Store) (f : Whole s.sets s.heads s.slots s.cells) where
  slot_ok : (bytes : List ℕ) (i w : ℕ) → i < s.sets.used → PlaceOk s (place_slot s bytes i w)
  unfolding place_slot
  slot_ok bytes i w h = go (eqb (kept_length w) 0) (same_list (kept s.cells s.sets.size w) bytes)
    where
      go : (a b : Bool) → PlaceOk s (cond a (Goes (room_in s.sets.used s.sets.evictions i)) (cond b (Repeat i) (Conflict i)))
      go true b = record { row = h; room = f.used; next = omega arith; all = omega arith; known = λ q. h }
      go false true = h
      go false false = h

  known_ok : (e : Entry) (bytes : List ℕ) (i : ℕ) → i < s.sets.used → PlaceOk s (place_known s e bytes i)
  unfolding place_known
  known_ok e bytes i h = go (eqb (version_of s.heads i) e.version && eqb (last_of s.heads i) e.last)
    where
      go : (b : Bool) → PlaceOk s (cond b (place_slot s bytes i (get_or s.slots (slots_at i + e.number) 0)) (Goes (room_renewed s.sets.used s.sets.evictions i)))
      go true = slot_ok bytes i (get_or s.slots (slots_at i + e.number) 0) h
      go false = record { row = h; room = f.used; next = omega arith; all = omega arith; known = λ q. h }

  new_ok : 0 < s.sets.limit → RoomOk s.sets (room_new s.heads s.sets.limit s.sets.used s.sets.evictions)
  unfolding room_new
  new_ok z = go (ltb s.sets.used s.sets.limit) refl
    where
      o : ℕ
      o = oldest_of s.heads s.sets.used

      go : (b : Bool) → ltb s.sets.used s.sets.limit ≡ b
          → RoomOk s.sets (cond b (room_renewed (s.sets.used + 1) s.sets.evictions s.sets.used) (room_renewed s.sets.used (s.sets.evictions + 1) o))
      go true q =
          let h : s.sets.used < s.sets.limit = ltb-true s.sets.used s.sets.limit q in
          record { row = omega arith; room = omega arith; next = omega arith; all = omega arith; known = λ t. absurd (true≢false t) }
      go false q =
          let h : s.sets.limit ≤ s.sets.used = ltb-false s.sets.used s.sets.limit q in
          let k : o < s.sets.used = oldest_below s.heads s.sets.used (omega arith) in
          record { row = k; room = f.used; next = omega arith; all = omega arith; known = λ t. k }

  pub place_ok : (e : Entry) (bytes : List ℕ) → 0 < s.sets.limit → PlaceOk s (place_of s e bytes)
  unfolding place_of
  place_ok e bytes z = go (ltb i s.sets.used) refl
    where
      i : ℕ
      i = row_of s.heads e.key s.sets.used

      go : (b : Bool) → ltb i s.sets.used ≡ b → PlaceOk s (cond b (place_known s e bytes i) (Goes (room_new s.heads s.sets.limit s.sets.used s.sets.evictions)))
      go true q = known_ok e bytes i (ltb-true i s.sets.used q)
      go false q = new_ok z

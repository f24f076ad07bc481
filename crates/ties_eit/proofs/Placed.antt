-- A section that 20 and limit 0 let in finds its place: in a new row, in one that is emptied, in its slot, or there it is already.
-- Assumes nothing.
use mathlib.Core.Path.{◌≡◌, refl, ap, subst, ◌∙◌}
use mathlib.Core.Logic.{◌≢◌}
use mathlib.Core.Bool.{Bool, true, false, cond, not, ◌&&◌}
use mathlib.Core.Option.{none}
use Prim.Native.Nat.{ℕ, suc, ◌+◌, ◌*◌, ◌≤◌, ◌<◌}
use native.Mathlib.Omega.{arith}
use borrow.Author.Tests.{ne_eqb, eqb-true, eqb-false, ltb-true, ltb-false}
use lib.Dec.{eqb, ltb}
use lib.ListN.{length, get_or}
use Rattle.laws.specs.Lists.{same_list}
use Rattle.laws.proofs.Search.{every_get}
use Rattle.rules_shared.specs.Same.{Bytes}
use Rattle.rules_shared.specs.Row.{fresh, fits, start, slot_of}
use Rattle.rules_shared.specs.Cells.{Held, lowest, place_new, place_held}
use Rattle.rules_shared.specs.Cells.{place as placed}
use Rattle.rules_shared.proofs.Slots.{free_slot}
use Rattle.rules_eit.specs.Keys.{Kind, SetKey, same_set}
use Rattle.rules_eit.specs.Segments.{SetOf}
use Rattle.rules_eit.specs.Rules.{Section, part_of, met_row}
use Rattle.rules_eit.specs.Cells.{taken, room_for, place_of, carry}
use Rattle.rules_eit.proofs.Keys.{same_set_true}
use Rattle.cells.specs.Cells.{kept_length, slot_whole, all_whole, kept}
use Rattle.rows.specs.declared.Entry.{Entry}
use Rattle.rows.specs.declared.Room.{Room}
use Rattle.rows.specs.Rows.{row_of, room_in, room_renewed, room_new, slots_at, slot_count, row_slots, last_of, version_of}
use Rattle.rows.proofs.Words.{slot_at, length_slots}
use Rattle.rows.proofs.Whole.{rows_get}
use Rattle.ticks.specs.Order.{Goes}
use Rattle.ticks.specs.Slots.{held_of}
use Rattle.ticks.proofs.Touch.{row_has_key, no_row_has_key, goes_known, goes_new, finds_known, finds_none}
use Rattle.ticks.proofs.Slots.{held_filled, held_empty, held_get}
use Rattle.ticks.proofs.Cells.{bytes_kept, same_bytes_lem}
use Rattle.placing.proofs.Fits.{slot_bounds, same_last_lem}
use Rattle.placing.specs.Places.{place_slot, place_known}
use Rattle.placing.specs.Places.{place_of as place_in}
use Rattle.placing.specs.declared.Place.TheVariants as place
use Rattle.schedules.specs.Schedules.{schedules_whole}
use Rattle.arrivals.specs.declared.Arrival.{Arrival}
use Rattle.eit_state.specs.State.{Store, set_store, Whole}
use Rattle.eit_plan.specs.Plan.{plan_placed}
use Rattle.eit_carry.specs.Carried.{carried}
use Rattle.eit.specs.Store.{told_step}
use Rattle.ties_eit.specs.View.{key_shown, key_words, row_seen, seen, Reached}
use Rattle.ties_eit.proofs.Keys.{set_self, key_reads}
use Rattle.ties_eit.proofs.Entered.{Tied, new_fresh}
use Rattle.ties_eit.proofs.Settle.{Arrives, Ready, settle_tied, conflict_tied}
use Rattle.ties_eit.proofs.Keep.{section_for, anew, goes_on, keep_tied}

module _ (s : Store) (z : Reached s) (f : Whole s)
    (units_ok : schedules_whole s.schedule_heads s.units s.eit.sets.count s.eit.sets.size s.eit.schedules ≡ true)
    (more : s.eit.sets.evictions < 18446744073709551615) (more' : s.eit.schedule_evictions < 18446744073709551615) (runs : s.eit.sets.clock < 18446744073709551615) (pos : 0 < s.eit.sets.limit)
    (a : Arrival) (kind : Kind) (arr : Arrives a kind) (bytes : Bytes) (h12 : 12 ≤ length bytes) (hs : length bytes ≤ s.eit.sets.size) where
  abbrev e : Entry
  e = a.entry

  abbrev x : Section
  x = section_for a bytes

  abbrev k : SetKey
  k = key_shown e.key

  proper : key_words (key_shown e.key) ≡ e.key
  proper = key_reads e.key arr.pid arr.bit

  abbrev there : ℕ
  there = row_of s.heads e.key s.eit.sets.used

  -- an empty slot: the lowest free cell, or 21
  place_empty : slot_of (part_of x) (met_row x k (seen s).eit) ≡ none → place_of (seen s) x k ≡ place_new (lowest (taken (room_for (seen s) x k)) (length (seen s).cells) 0)
  unfolding place_of placed
  place_empty h = rw h

  -- the key is new
  met_new : s.eit.sets.used ≤ there → met_row x k (seen s).eit ≡ fresh (part_of x)
  unfolding met_row start seen
  met_new h =
      rw (finds_none key_shown key_words same_set same_set_true set_self s.heads s.eit.sets.limit s.eit.sets.used s.eit.sets.clock (suc s.eit.sets.clock) s.eit.sets.evictions e.key z.sets (omega arith) proper (row_seen s.heads s.slots)
      (no_row_has_key s.heads e.key s.eit.sets.used h))

  fresh_slot : (r : SetOf Held) → r ≡ fresh (part_of x) → slot_of (part_of x) r ≡ none
  unfolding slot_of fresh part_of
  fresh_slot r q = rw q (free_slot (suc e.last) e.number)

  new_tied : s.eit.sets.used ≤ there
      → Tied (told_step (carried s bytes (plan_placed s a (place.Goes (room_new s.heads s.eit.sets.limit s.eit.sets.used s.eit.sets.evictions))))) (carry (seen s) x k (place_of (seen s) x k))
  new_tied h =
      let r : Room = room_new s.heads s.eit.sets.limit s.eit.sets.used s.eit.sets.evictions in
      rw (place_empty (fresh_slot _ (met_new h)))
      (keep_tied s z f units_ok more more' runs pos a kind arr bytes h12 hs r (goes_new s.heads s.eit.sets.limit s.eit.sets.used s.eit.sets.evictions e.key h pos)
      (anew (new_fresh s.heads s.eit.sets.limit s.eit.sets.used s.eit.sets.evictions)) (met_new h))

  -- the key is known
  module _ (h : there < s.eit.sets.used) where
    abbrev row : SetOf Held
    row = row_seen s.heads s.slots there

    goes : Goes s.heads s.eit.sets.limit s.eit.sets.used s.eit.sets.evictions e.key there s.eit.sets.used s.eit.sets.evictions
    goes = goes_known s.heads s.eit.sets.limit s.eit.sets.used s.eit.sets.evictions e.key h

    fits_as : fits (part_of x) row ≡ (eqb (version_of s.heads there) e.version && eqb (last_of s.heads there) e.last)
    unfolding fits row_seen part_of
    fits_as = refl

    met_known : (b : Bool) → (eqb (version_of s.heads there) e.version && eqb (last_of s.heads there) e.last) ≡ b → met_row x k (seen s).eit ≡ cond b row (fresh (part_of x))
    unfolding met_row start seen
    met_known b q =
        rw (
          finds_known key_shown key_words same_set same_set_true set_self s.heads s.eit.sets.limit s.eit.sets.used s.eit.sets.clock (suc s.eit.sets.clock) s.eit.sets.evictions e.key z.sets (omega arith) proper (row_seen s.heads s.slots) there h
              (row_has_key s.heads e.key s.eit.sets.used h),
          fits_as,
          q,
        )

    -- "A differing version or last number empties the row"
    renewed_tied : met_row x k (seen s).eit ≡ fresh (part_of x)
        → Tied (told_step (carried s bytes (plan_placed s a (place.Goes (room_renewed s.eit.sets.used s.eit.sets.evictions there))))) (carry (seen s) x k (place_of (seen s) x k))
    renewed_tied m =
        rw (place_empty (fresh_slot _ m))
        (keep_tied s z f units_ok more more' runs pos a kind arr bytes h12 hs (room_renewed s.eit.sets.used s.eit.sets.evictions there) goes (anew refl) m)

    -- the row goes on
    module _ (last : last_of s.heads there ≡ e.last) (m : met_row x k (seen s).eit ≡ row) where
      abbrev w : ℕ
      w = get_or s.slots (slots_at there + e.number) 0

      in_row : e.number < slot_count (last_of s.heads there)
      in_row = let p = arr.numbered.number in let q = arr.numbered.last in omega arith

      slot_is : slot_of (part_of x) (met_row x k (seen s).eit) ≡ held_of w
      unfolding slot_of part_of row_seen
      slot_is = rw m (held_get (row_slots s.heads s.slots there) e.number ∙ ap held_of (slot_at s.heads s.slots there e.number in_row))

      row_ok : all_whole s.eit.sets.count s.eit.sets.size (row_slots s.heads s.slots there) ≡ true
      row_ok = rows_get s.heads s.slots s.eit.sets.count s.eit.sets.size s.eit.sets.used there f.sets.rows h

      slots_there : there * 288 + 288 ≤ length s.slots
      slots_there = let p = f.sets.slots_long in let q = f.sets.used in omega arith

      word_ok : slot_whole s.eit.sets.count s.eit.sets.size w ≡ true
      word_ok =
          subst (λ (v : ℕ). slot_whole s.eit.sets.count s.eit.sets.size v ≡ true) (slot_at s.heads s.slots there e.number in_row)
          (every_get (slot_whole s.eit.sets.count s.eit.sets.size) (row_slots s.heads s.slots there) 0 e.number row_ok (let d = length_slots s.heads s.slots there slots_there in let i = in_row in omega arith))

      -- the store itself, with the row as it is
      itself : Ready s s.eit.sets.used s.eit.sets.evictions s.heads s.slots s.cells e.key there
      itself = record {
        fits = z.fits;
        counts = z.counts;
        long = let p = f.sets.heads_long in let q = f.sets.used in omega arith;
        slots_long = let p = f.sets.slots_long in let q = f.sets.used in omega arith;
        own = row_has_key s.heads e.key s.eit.sets.used h;
        head_fits = z.heads_fit there h;
        others = λ j n l ne q. refl;
        slots = λ j l ne. refl;
        segments = λ j n l ne q. refl;
        rows_ok = f.sets.rows;
      }

      -- "identical bytes are ignored, others conflict"
      held_tied : kept_length w ≢ 0
          → Tied (told_step (carried s bytes (plan_placed s a (cond (same_list (kept s.cells s.eit.sets.size w) bytes) (place.Repeat there) (place.Conflict there))))) (carry (seen s) x k (place_of (seen s) x k))
      unfolding place_of placed place_held seen carry room_for
      held_tied ne =
          let b = slot_bounds s.eit.sets.count s.eit.sets.size w word_ok ne in
          rw (slot_is, held_filled w (ap not (ne_eqb (kept_length w) 0 ne)), bytes_kept s.cells s.eit.sets.size s.eit.sets.count w b.1 b.0, same_bytes_lem (kept s.cells s.eit.sets.size w) bytes)
          (go (same_list (kept s.cells s.eit.sets.size w) bytes))
        where
          go : (b : Bool) → Tied (told_step (carried s bytes (plan_placed s a (cond b (place.Repeat there) (place.Conflict there))))) (carry (seen s) x k (place_held b))
          go true =
              rw m (settle_tied s z f units_ok more' runs pos a kind arr s.eit.sets.used s.eit.sets.evictions s.heads s.slots s.cells there goes itself)
          go false =
              rw m (conflict_tied s z f units_ok more' runs pos a kind arr s.eit.sets.used s.eit.sets.evictions s.heads s.slots s.cells there goes itself)

      slot_tied : Tied (told_step (carried s bytes (plan_placed s a (place_slot (set_store s) bytes there w)))) (carry (seen s) x k (place_of (seen s) x k))
      unfolding place_slot
      slot_tied = go (eqb (kept_length w) 0) refl
        where
          go : (b : Bool) → eqb (kept_length w) 0 ≡ b
              → Tied (told_step (carried s bytes (plan_placed s a (cond b (place.Goes (room_in s.eit.sets.used s.eit.sets.evictions there)) (cond (same_list (kept s.cells s.eit.sets.size w) bytes) (place.Repeat there) (place.Conflict there))))))
              (carry (seen s) x k (place_of (seen s) x k))
          go true q =
              rw (place_empty (slot_is ∙ held_empty w (eqb-true (kept_length w) 0 q)))
              (keep_tied s z f units_ok more more' runs pos a kind arr bytes h12 hs (room_in s.eit.sets.used s.eit.sets.evictions there) goes
              (goes_on refl h (row_has_key s.heads e.key s.eit.sets.used h) last) m)
          go false q = held_tied (eqb-false (kept_length w) 0 q)

    known_tied : Tied (told_step (carried s bytes (plan_placed s a (place_known (set_store s) e bytes there)))) (carry (seen s) x k (place_of (seen s) x k))
    unfolding place_known
    known_tied = go (eqb (version_of s.heads there) e.version && eqb (last_of s.heads there) e.last) refl
      where
        go : (b : Bool) → (eqb (version_of s.heads there) e.version && eqb (last_of s.heads there) e.last) ≡ b
            → Tied (told_step (carried s bytes (plan_placed s a (cond b (place_slot (set_store s) bytes there (get_or s.slots (slots_at there + e.number) 0))
            (place.Goes (room_renewed s.eit.sets.used s.eit.sets.evictions there)))))) (carry (seen s) x k (place_of (seen s) x k))
        go true q = slot_tied (same_last_lem (version_of s.heads there) (last_of s.heads there) e.version e.last q) (met_known true q)
        go false q = renewed_tied (met_known false q)

  pub placed_tied : Tied (told_step (carried s bytes (plan_placed s a (place_in (set_store s) e bytes)))) (carry (seen s) x k (place_of (seen s) x k))
  unfolding place_in
  placed_tied = go (ltb there s.eit.sets.used) refl
    where
      go : (b : Bool) → ltb there s.eit.sets.used ≡ b
          → Tied (told_step (carried s bytes (plan_placed s a (cond b (place_known (set_store s) e bytes there) (place.Goes (room_new s.heads s.eit.sets.limit s.eit.sets.used s.eit.sets.evictions))))))
          (carry (seen s) x k (place_of (seen s) x k))
      go true q = known_tied (ltb-true there s.eit.sets.used q)
      go false q = new_tied (ltb-false there s.eit.sets.used q)

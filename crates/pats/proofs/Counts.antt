-- A section that enters the PAT store counts no eviction, or one, and its clock rises by one at most.
-- Assumes nothing.
use mathlib.Core.Path.{◌≡◌, refl, sym, subst}
use mathlib.Core.Bool.{Bool, true, false, cond, ◌&&◌}
use mathlib.Core.List.{List}
use Prim.Native.Nat.{ℕ, ◌+◌, ◌≤◌, ◌<◌, max}
use native.Mathlib.Omega.{arith}
use borrow.Author.Tests.{ne_eqb}
use lib.Dec.{eqb, ltb}
use lib.ListN.{length, get_or}
use Rattle.laws.specs.Lists.{same_list}
use Rattle.cells.specs.Cells.{kept_length, kept, lowest_free}
use Rattle.answers.specs.declared.Refusal.TheVariants.{NoCell, TooLong}
use Rattle.rows.specs.Rows.{row_of, room_in, room_renewed, room_new, oldest_of, last_of, version_of, slots_at, gone_row, taken_in}
use Rattle.rows.specs.declared.Entry.{Entry}
use Rattle.rows.specs.declared.Room.{Room}
use Rattle.store.specs.Store.{Store}
use Rattle.placing.specs.Places.{place_slot, place_known, place_of}
use Rattle.placing.specs.declared.Place.{Place}
use Rattle.placing.specs.declared.Place.TheVariants as place
use Rattle.sets_plan.specs.Plan.{plan_keep, plan_placed, plan_of}
use Rattle.sets_plan.specs.declared.Plan.{Plan}
use Rattle.sets_plan.specs.declared.Plan.TheVariants as plan
use Rattle.sets_settle.specs.Settle.{settled, kept_in, carried}
use Rattle.sets_push.specs.Pushing.{whole_pushed}
use Rattle.pats.specs.Store.{Record, pat_clock, pat_most, pats_full, pat_store, entered_in, PatsReady}
use Rattle.pats.proofs.Laws.{then_store, enter_by}

-- ---- where it goes

pub record OneMore (n m : ℕ) : Type 0 where
  pub least : n ≤ m
  pub most : m ≤ n + 1

same : (n : ℕ) → OneMore n n
same n = record { least = omega arith; most = omega arith }

next : (n : ℕ) → OneMore n (n + 1)
next n = record { least = omega arith; most = omega arith }

abbrev FewIn : ℕ → Place → Type 0
FewIn n (place.Conflict i) = Unit {0}
FewIn n (place.Repeat i) = Unit {0}
FewIn n (place.Goes r) = OneMore n r.evictions

module _ (s : Store) (e : Entry) (bytes : List ℕ) where
  abbrev n : ℕ
  n = s.sets.evictions

  slot_few : (i w : ℕ) → FewIn n (place_slot s bytes i w)
  unfolding place_slot
  slot_few i w = go (eqb (kept_length w) 0) (same_list (kept s.cells s.sets.size w) bytes)
    where
      go : (a b : Bool) → FewIn n (cond a (place.Goes (room_in s.sets.used n i)) (cond b (place.Repeat i) (place.Conflict i)))
      go true b = same n
      go false true = tt
      go false false = tt

  known_few : (i : ℕ) → FewIn n (place_known s e bytes i)
  unfolding place_known
  known_few i = go (eqb (version_of s.heads i) e.version && eqb (last_of s.heads i) e.last)
    where
      go : (b : Bool) → FewIn n (cond b (place_slot s bytes i (get_or s.slots (slots_at i + e.number) 0)) (place.Goes (room_renewed s.sets.used n i)))
      go true = slot_few i (get_or s.slots (slots_at i + e.number) 0)
      go false = same n

  new_few : OneMore n (room_new s.heads s.sets.limit s.sets.used n).evictions
  unfolding room_new
  new_few = go (ltb s.sets.used s.sets.limit)
    where
      o : ℕ
      o = oldest_of s.heads s.sets.used

      go : (b : Bool) → OneMore n (cond b (room_renewed (s.sets.used + 1) n s.sets.used) (room_renewed s.sets.used (n + 1) o)).evictions
      go true = same n
      go false = next n

  place_few : FewIn n (place_of s e bytes)
  unfolding place_of
  place_few = go (ltb i s.sets.used)
    where
      i : ℕ
      i = row_of s.heads e.key s.sets.used

      go : (b : Bool) → FewIn n (cond b (place_known s e bytes i) (place.Goes (room_new s.heads s.sets.limit s.sets.used n)))
      go true = known_few i
      go false = new_few

  -- ---- what is carried out

  abbrev Few : Plan → Type 0
  Few p = OneMore n (carried s bytes p).store.sets.evictions

  keep_few : (r : Room) → OneMore n r.evictions → Few (plan_keep s e r)
  unfolding plan_keep settled kept_in
  keep_few r h = go (ltb c s.sets.count)
    where
      c : ℕ
      c = lowest_free (taken_in s.heads s.slots (gone_row r s.sets.used) s.sets.used) s.sets.count

      go : (b : Bool) → Few (cond b (plan.Keep (record { entry = e; room = r; cell = c })) (plan.Refuse NoCell))
      go true = h
      go false = same n

  placed_few : (p : Place) → FewIn n p → Few (plan_placed s e p)
  unfolding settled
  placed_few (place.Conflict i) h = same n
  placed_few (place.Repeat i) h = same n
  placed_few (place.Goes r) h = keep_few r h

  pub pushed_few : OneMore n (whole_pushed s e bytes).store.sets.evictions
  unfolding whole_pushed plan_of
  pushed_few = go (ltb s.sets.size (length bytes)) (eqb s.sets.limit 0)
    where
      go : (a b : Bool) → Few (cond a (plan.Refuse TooLong) (cond b plan.Silent (plan_placed s e (place_of s e bytes))))
      go true b = same n
      go false true = same n
      go false false = placed_few (place_of s e bytes) place_few

  -- ---- the clock

  rises : (p : Plan) → OneMore s.sets.clock (carried s bytes p).store.sets.clock
  unfolding settled kept_in
  rises (plan.Refuse r) = same s.sets.clock
  rises plan.Silent = same s.sets.clock
  rises (plan.Conflict i) = next s.sets.clock
  rises (plan.Repeat i) = next s.sets.clock
  rises (plan.Keep k) = next s.sets.clock

  -- the larger of the two
  pub pushed_most : OneMore (max n s.sets.clock) (max (whole_pushed s e bytes).store.sets.evictions (whole_pushed s e bytes).store.sets.clock)
  unfolding whole_pushed
  pushed_most =
      let a = pushed_few in
      let b = rises (plan_of s e bytes) in
      record { least = omega (arith, a.least, b.least); most = omega (arith, a.most, b.most) }

-- ---- the record

pub entered_few : (r : Record) → PatsReady r → (input : ℕ) (section : List ℕ) → get_or section 7 0 < 256 → OneMore (pat_most r.words) (pat_most (entered_in r input section).words)
entered_few r o input section b =
    enter_by r input section b (λ (k : Record). OneMore (pat_most r.words) (pat_most k.words)) (same (pat_most r.words))
    (λ h e a. subst (λ (s : Store). OneMore (pat_most r.words) (max s.sets.evictions s.sets.clock)) (sym (then_store r o section e a)) (pushed_most (pat_store r) e section))

-- 11 does not come where neither is at its end
pub not_full : (words : List ℕ) → pat_most words < 18446744073709551615 → pats_full words ≡ false
unfolding pats_full
not_full words h =
    rw (
      ne_eqb (get_or words 385 0) 18446744073709551615 (λ (e : get_or words 385 0 ≡ 18446744073709551615). omega arith),
      ne_eqb (pat_clock words) 18446744073709551615 (λ (e : pat_clock words ≡ 18446744073709551615). omega arith),
    ) refl

-- A store that is whole stays whole, whatever is pushed, and the push does not answer 10.
-- Assumes nothing.
use mathlib.Core.Path.{◌≡◌, refl, sym, subst, ◌∙◌}
use mathlib.Core.Logic.{◌≢◌}
use mathlib.Core.Bool.{Bool, true, false, cond}
use mathlib.Core.List.{List}
use Prim.Native.Nat.{ℕ, ◌+◌, ◌*◌, ◌≤◌, ◌<◌}
use native.Mathlib.Nat.{le_refl}
use native.Mathlib.Omega.{arith}
use borrow.Author.Tests.{le-leb, ltb-true, ltb-false, eqb-false}
use lib.Dec.{eqb, ltb}
use lib.ListN.{length}
use lib.Seq.{paste, length-paste}
use Rattle.answers.specs.declared.Refusal.TheVariants as refusal
use Rattle.cells.specs.Cells.{slot_word}
use Rattle.rows.specs.Rows.{word, touched, kept_heads, rows_whole, last_of}
use Rattle.rows.proofs.Words.{put_not, length_put, length_touched, touched_not, length_kept}
use Rattle.rows.proofs.Whole.{slot_get, slot_all, rows_get}
use Rattle.store.specs.declared.Sets.{Sets}
use Rattle.store.proofs.Whole.{means_whole, cell_fits}
use Rattle.arrivals.specs.Arrivals.{Numbered}
use Rattle.arrivals.specs.declared.Arrival.{Arrival}
use Rattle.placing.specs.Places.{place_of, RoomOk, PlaceOk}
use Rattle.placing.specs.declared.Place.{Place}
use Rattle.placing.specs.declared.Place.TheVariants as place
use Rattle.placing.proofs.Laws.{place_ok}
use Rattle.segments.specs.Segments.{kept_section}
use Rattle.schedules.specs.Schedules.{schedules_whole, room_of, scheduled_heads, scheduled_units}
use Rattle.schedules.specs.declared.ScheduleRoom.{ScheduleRoom}
use Rattle.eit_state.specs.declared.PushAnswer.TheVariants as answer
use Rattle.eit_state.specs.State.{Store, store, store_with, Rows, rows, rows_of, set_store, whole_of, with_sets, risen_eit, risen_rows, RowsFit}
use Rattle.eit_state.proofs.Whole.{whole_store, units_whole_lem, whole_room}
use Rattle.eit_plan.specs.declared.Keeping.{Keeping}
use Rattle.eit_plan.specs.declared.Plan.{Plan}
use Rattle.eit_plan.specs.declared.Plan.TheVariants as plan
use Rattle.eit_plan.specs.Plan.{free_cell, plan_placed, plan_of}
use Rattle.eit_becomes.specs.declared.Becomes.{Becomes}
use Rattle.eit_becomes.specs.declared.Becomes.TheVariants as becomes
use Rattle.eit_becomes.specs.Becoming.{own_table, becomes_of, is_marked}
use Rattle.eit_enter.specs.Entering.{schedule_entry, entered_in, entered}
use Rattle.eit_settle.specs.Settle.{marked_heads, settled_as, settled}
use Rattle.eit_carry.specs.Carried.{kept_and_settled, carried, pushed_whole}
use Rattle.eit_carry.proofs.Ways.{risen_fit}
use Rattle.eit_keeps.specs.Keeps.{WholeStore}
use Rattle.eit_keeps.proofs.Schedules.{Found, room_found, enter_keeps, heads_length, enter_whole}
use Rattle.eit_keeps.proofs.Kept.{word_whole, section_length_lem, section_whole}

-- ---- the test for 10, both ways

pub means_store : (s : Store) → whole_of s ≡ true → WholeStore s
means_store s e = record { fits = whole_store s e; units = units_whole_lem s e }

pub store_means : (s : Store) → WholeStore s → whole_of s ≡ true
unfolding whole_of
store_means s w =
    let f = w.fits in
    rw (
      means_whole (set_store s) f.sets,
      le-leb (s.eit.sets.limit * 12) (length s.schedule_heads) f.schedule_heads_long,
      le-leb (s.eit.sets.limit * 4608) (length s.units) f.units_long,
      le-leb s.eit.schedules s.eit.sets.limit f.schedules,
    ) w.units

-- ---- all but the cells

pub record WholeRows (r : Rows) : Type 0 where
  pub fit : RowsFit r
  pub sets : rows_whole r.heads r.slots r.eit.sets.count r.eit.sets.size r.eit.sets.used ≡ true
  pub units : schedules_whole r.schedule_heads r.units r.eit.sets.count r.eit.sets.size r.eit.schedules ≡ true

-- the cells are as many as the settings say
pub record CellsFit (s : Sets) (cells : List ℕ) : Type 0 where
  pub size_low : 12 ≤ s.size
  pub size_high : s.size ≤ 4096
  pub few : s.count ≤ 65535
  pub long : s.count * s.size ≤ length cells

-- of a store whose clock has risen
cells_fit : (s : Store) → WholeStore s → CellsFit (risen_eit s.eit).sets s.cells
cells_fit s w = let f = w.fits.sets in record { size_low = f.size_low; size_high = f.size_high; few = f.few; long = f.cells_long }

of_store : (s : Store) → WholeStore s → WholeRows (risen_rows (rows_of s))
of_store s w = record { fit = risen_fit (rows_of s) (whole_room s w.fits); sets = w.fits.sets.rows; units = w.units }

with_cells_lem : (r : Rows) (cells : List ℕ) → WholeRows r → CellsFit r.eit.sets cells → WholeStore (store_with r cells)
with_cells_lem r cells w c =
    let f = w.fit in
    record {
      fits = record {
        sets = record {
          size_low = c.size_low;
          size_high = c.size_high;
          few = c.few;
          used = f.used;
          heads_long = f.heads_long;
          slots_long = f.slots_long;
          cells_long = c.long;
          rows = w.sets;
        };
        schedule_heads_long = f.schedule_heads_long;
        units_long = f.units_long;
        schedules = f.schedules;
      };
      units = w.units;
    }

-- ---- a row is settled

-- heads that differ in no last_section_number
pub same_slots : (heads heads' slots : List ℕ) (count size n : ℕ) → ((j : ℕ) → last_of heads' j ≡ last_of heads j) → n * 288 ≤ length slots → rows_whole heads slots count size n ≡ true → rows_whole heads' slots count size n ≡ true
same_slots heads heads' slots count size n e a w = slot_all heads' slots count size n a (λ i k h hk. slot_get heads slots count size n i k w h a (rw (e i) at hk))

other_heads : (r : Rows) (heads' : List ℕ) → ((j : ℕ) → last_of heads' j ≡ last_of r.heads j) → length heads' ≡ length r.heads → WholeRows r → WholeRows (rows r.eit heads' r.slots r.schedule_heads r.units)
other_heads r heads' e l w =
    let f = w.fit in
    let n = r.eit.sets.used in
    let a : n * 288 ≤ length r.slots = let b = f.slots_long in let c = f.used in omega arith in
    record {
      fit = record {
        used = f.used;
        heads_long = rw l f.heads_long;
        slots_long = f.slots_long;
        schedule_heads_long = f.schedule_heads_long;
        units_long = f.units_long;
        schedules = f.schedules;
      };
      sets = same_slots r.heads heads' r.slots r.eit.sets.count r.eit.sets.size n e a w.sets;
      units = w.units;
    }

-- neither its tick nor its mark is another word
pub marked_word : (b : Bool) (clock i : ℕ) (heads : List ℕ) (j m : ℕ) → m ≢ 8 → m ≢ 9 → m < 12 → word (marked_heads b i (touched clock i heads)) j m ≡ word heads j m
marked_word true clock i heads j m d d' h = put_not (touched clock i heads) i 8 1 j m d (omega arith) h ∙ touched_not clock i heads j m d' h
marked_word false clock i heads j m d d' h = touched_not clock i heads j m d' h

pub marked_length : (b : Bool) (clock i : ℕ) (heads : List ℕ) → length (marked_heads b i (touched clock i heads)) ≡ length heads
marked_length true clock i heads = length_put i 8 1 (touched clock i heads) ∙ length_touched clock i heads
marked_length false clock i heads = length_touched clock i heads

module _ (a : Arrival) (i : ℕ) where
  -- the schedule that the set of row i enters
  abbrev pub room_for : Rows → ScheduleRoom
  room_for r = room_of r.schedule_heads r.eit.sets.limit r.eit.schedules r.eit.schedule_evictions (schedule_entry a)

  pub found : (r : Rows) → RowsFit r → i < r.eit.sets.used → Found r.eit.sets.limit r.eit.schedules (room_for r)
  found r f h =
      let u = f.used in
      room_found r.schedule_heads r.eit.sets.limit r.eit.schedules r.eit.schedule_evictions (schedule_entry a) (omega arith) f.schedules

  entered_whole : (r : Rows) → WholeRows r → i < r.eit.sets.used → WholeRows (entered r a i).rows
  unfolding entered entered_in
  entered_whole r w h = record {
    fit = record {
      used = f.used;
      heads_long = f.heads_long;
      slots_long = f.slots_long;
      schedule_heads_long = rw heads_same f.schedule_heads_long;
      units_long = rw units_same f.units_long;
      schedules = o.room;
    };
    sets = w.sets;
    units = enter_whole r.eit.sets.count r.eit.sets.size r.heads r.slots r.eit.sets.used r.eit.sets.clock (schedule_entry a) (own_table a) i r.eit.sets.limit r.eit.schedules (room_for r) r.schedule_heads r.units
        slots_long (λ j l. rows_get r.heads r.slots r.eit.sets.count r.eit.sets.size r.eit.sets.used j w.sets l) h f.schedule_heads_long f.units_long o w.units f.schedules;
  }
    where
      f : RowsFit r
      f = w.fit

      o : Found r.eit.sets.limit r.eit.schedules (room_for r)
      o = found r w.fit h

      slots_long : r.eit.sets.used * 288 ≤ length r.slots
      slots_long = let u = w.fit.used in let l = w.fit.slots_long in omega arith

      heads_same : length (scheduled_heads r.eit.sets.clock (room_for r).room (schedule_entry a) r.schedule_heads) ≡ length r.schedule_heads
      heads_same =
          heads_length r.eit.sets.count r.eit.sets.size r.heads r.slots r.eit.sets.used r.eit.sets.clock (schedule_entry a) (own_table a) i r.eit.sets.limit r.eit.schedules (room_for r) r.schedule_heads r.units
          slots_long (λ j l. rows_get r.heads r.slots r.eit.sets.count r.eit.sets.size r.eit.sets.used j w.sets l) h w.fit.schedule_heads_long w.fit.units_long o

      units_same : length (scheduled_units r.heads r.slots r.eit.sets.used (schedule_entry a) (own_table a) i (room_for r) r.units) ≡ length r.units
      units_same =
          (enter_keeps r.eit.sets.count r.eit.sets.size r.heads r.slots r.eit.sets.used r.eit.sets.clock (schedule_entry a) (own_table a) i r.eit.sets.limit r.eit.schedules (room_for r) r.schedule_heads r.units
          slots_long (λ j l. rows_get r.heads r.slots r.eit.sets.count r.eit.sets.size r.eit.sets.used j w.sets l) h w.fit.schedule_heads_long w.fit.units_long o).same

  as_whole : (b : Becomes) (r : Rows) → WholeRows r → i < r.eit.sets.used → WholeRows (settled_as b r a i).rows
  as_whole becomes.Stays r w h = w
  as_whole becomes.GoesOut r w h = w
  as_whole becomes.OutOfRange r w h = w
  as_whole becomes.Enters r w h = entered_whole r w h

  as_sets : (b : Becomes) (r : Rows) → (settled_as b r a i).rows.eit.sets ≡ r.eit.sets
  unfolding entered entered_in
  as_sets becomes.Stays r = refl
  as_sets becomes.GoesOut r = refl
  as_sets becomes.OutOfRange r = refl
  as_sets becomes.Enters r = refl

  settled_whole : (r : Rows) → WholeRows r → i < r.eit.sets.used → WholeRows (settled r a i).rows
  unfolding settled
  settled_whole r w h =
      let heads : List ℕ = touched r.eit.sets.clock i r.heads in
      let b : Becomes = becomes_of heads r.slots a i in
      as_whole b (rows r.eit (marked_heads (is_marked b) i heads) r.slots r.schedule_heads r.units)
      (other_heads r (marked_heads (is_marked b) i heads) (λ j. marked_word (is_marked b) r.eit.sets.clock i r.heads j 7 (omega arith) (omega arith) (omega arith))
      (marked_length (is_marked b) r.eit.sets.clock i r.heads) w) h

  settled_sets : (r : Rows) → (settled r a i).rows.eit.sets ≡ r.eit.sets
  unfolding settled
  settled_sets r =
      let heads : List ℕ = touched r.eit.sets.clock i r.heads in
      let b : Becomes = becomes_of heads r.slots a i in
      as_sets b (rows r.eit (marked_heads (is_marked b) i heads) r.slots r.schedule_heads r.units)

  settled_store : (r : Rows) (cells : List ℕ) → WholeRows r → CellsFit r.eit.sets cells → i < r.eit.sets.used → WholeStore (store_with (settled r a i).rows cells)
  settled_store r cells w c h = with_cells_lem (settled r a i).rows cells (settled_whole r w h) (subst (λ (s : Sets). CellsFit s cells) (sym (settled_sets r)) c)

-- ---- a section is kept

-- what is decided of a store that is whole: rows in use, a cell below count, a section that fits it
pub record KeepFits (s : Store) (bytes : List ℕ) (k : Keeping) : Type 0 where
  pub numbered : Numbered k.arrival.entry
  pub room : RoomOk s.eit.sets k.room
  pub cell : k.cell < s.eit.sets.count
  pub fits : length bytes ≤ s.eit.sets.size

abbrev pub PlanFits : Store → List ℕ → Plan → Type 0
PlanFits s bytes (plan.Leave a) = Unit {0}
PlanFits s bytes (plan.Conflict i) = i < s.eit.sets.used
PlanFits s bytes (plan.Repeat x) = x.row < s.eit.sets.used
PlanFits s bytes (plan.Keep k) = KeepFits s bytes k

-- all but the cells, once it is kept and before its row is settled
abbrev pub kept_rows : Store → List ℕ → Keeping → Rows
kept_rows s bytes k =
    rows (risen_eit (with_sets s.eit k.room.used k.room.evictions)) (kept_heads k.room k.arrival.entry s.heads)
    (kept_section k.room k.arrival.entry k.arrival.segment (slot_word (length bytes) k.cell) s.slots) s.schedule_heads s.units

module _ (s : Store) (bytes : List ℕ) (k : Keeping) (w : WholeStore s) (o : KeepFits s bytes k) (long : 12 ≤ length bytes) where
  pub kept_whole : WholeRows (kept_rows s bytes k)
  kept_whole =
      let f = w.fits in
      let g = f.sets in
      let hl : length (kept_heads k.room k.arrival.entry s.heads) ≡ length s.heads = length_kept k.room k.arrival.entry s.heads (let a = g.heads_long in let b = o.room.room in let c = o.room.row in omega arith) in
      let sl : length (kept_section k.room k.arrival.entry k.arrival.segment (slot_word (length bytes) k.cell) s.slots) ≡ length s.slots =
      section_length_lem s.eit.sets s.heads s.slots s.cells g k.room o.room k.arrival.entry o.numbered k.arrival.segment (slot_word (length bytes) k.cell) in
      record {
        fit = record {
          used = o.room.room;
          heads_long = rw hl g.heads_long;
          slots_long = rw sl g.slots_long;
          schedule_heads_long = f.schedule_heads_long;
          units_long = f.units_long;
          schedules = f.schedules;
        };
        sets = section_whole s.eit.sets s.heads s.slots s.cells g k.room o.room k.arrival.entry o.numbered k.arrival.segment (slot_word (length bytes) k.cell)
            (word_whole (length bytes) k.cell s.eit.sets.count s.eit.sets.size long o.fits o.cell g.few);
        units = w.units;
      }

  kept_store : WholeStore (kept_and_settled s bytes k).store
  unfolding kept_and_settled
  kept_store =
      let g = w.fits.sets in
      let at : k.cell * s.eit.sets.size + length bytes ≤ length s.cells = cell_fits s.eit.sets s.heads s.slots s.cells (length bytes) k.cell g o.cell o.fits in
      let cl : length (paste s.cells (k.cell * s.eit.sets.size) bytes (length bytes)) ≡ length s.cells = length-paste s.cells (k.cell * s.eit.sets.size) bytes (length bytes) at (le_refl (length bytes)) in
      settled_store k.arrival k.room.row (kept_rows s bytes k) (paste s.cells (k.cell * s.eit.sets.size) bytes (length bytes)) kept_whole
      (record { size_low = g.size_low; size_high = g.size_high; few = g.few; long = rw cl g.cells_long }) o.room.row

-- ---- every plan

module _ (s : Store) (bytes : List ℕ) (w : WholeStore s) where
  module _ (a : Arrival) (m : Numbered a.entry) where
    placed_fits : length bytes ≤ s.eit.sets.size → (p : Place) → PlaceOk (set_store s) p → PlanFits s bytes (plan_placed s a p)
    placed_fits l (place.Conflict i) k = k
    placed_fits l (place.Repeat i) k = k
    placed_fits l (place.Goes r) k = go (ltb (free_cell (rows_of s) (place.Goes r)) s.eit.sets.count) refl
      where
        go : (b : Bool) → ltb (free_cell (rows_of s) (place.Goes r)) s.eit.sets.count ≡ b
            → PlanFits s bytes (cond b (plan.Keep (record { arrival = a; room = r; cell = free_cell (rows_of s) (place.Goes r) })) (plan.Leave (answer.Refused refusal.NoCell)))
        go true q = record { numbered = m; room = k; cell = ltb-true _ _ q; fits = l }
        go false q = tt

    pub plan_fits : PlanFits s bytes (plan_of s bytes a)
    unfolding plan_of
    plan_fits = go (ltb s.eit.sets.size (length bytes)) (eqb s.eit.sets.limit 0) refl refl
      where
        go : (x y : Bool) → ltb s.eit.sets.size (length bytes) ≡ x → eqb s.eit.sets.limit 0 ≡ y
            → PlanFits s bytes (cond x (plan.Leave (answer.Refused refusal.TooLong)) (cond y (plan.Leave answer.Nothing) (plan_placed s a (place_of (set_store s) a.entry bytes))))
        go true y p q = tt
        go false true p q = tt
        go false false p q =
            let z = eqb-false s.eit.sets.limit 0 q in
            placed_fits (ltb-false s.eit.sets.size (length bytes) p) (place_of (set_store s) a.entry bytes) (place_ok (set_store s) w.fits.sets a.entry bytes (omega arith))

  module _ (long : 12 ≤ length bytes) where
    carried_whole : (p : Plan) → PlanFits s bytes p → WholeStore (carried s bytes p).store
    carried_whole (plan.Leave a) o = w
    carried_whole (plan.Conflict i) o =
        with_cells_lem (rows (risen_eit s.eit) (touched (s.eit.sets.clock + 1) i s.heads) s.slots s.schedule_heads s.units) s.cells
        (other_heads (risen_rows (rows_of s)) (touched (s.eit.sets.clock + 1) i s.heads) (λ j. touched_not (s.eit.sets.clock + 1) i s.heads j 7 (omega arith) (omega arith)) (length_touched (s.eit.sets.clock + 1) i s.heads) (of_store s w))
        (cells_fit s w)
    carried_whole (plan.Repeat x) o = settled_store x.arrival x.row (risen_rows (rows_of s)) s.cells (of_store s w) (cells_fit s w) o
    carried_whole (plan.Keep k) o = kept_store s bytes k w o long

    -- the part behind the refusals
    pub whole_stays : (a : Arrival) → Numbered a.entry → WholeStore (pushed_whole s bytes a).store
    unfolding pushed_whole
    whole_stays a m = carried_whole (plan_of s bytes a) (plan_fits a m)

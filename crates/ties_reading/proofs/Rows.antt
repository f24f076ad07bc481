-- The row that an answer 5 or 6 of the EIT collector tells of is in use; a schedule that goes out has every table up to its last_table_id.
-- Assumes nothing.
use Prim.Native.Nat.{ℕ, ◌+◌, ◌-◌, ◌*◌, ◌≤◌, ◌<◌}
use native.Mathlib.Omega.{arith}
use mathlib.Core.Path.{◌≡◌, refl, ap, ◌∙◌}
use mathlib.Core.List.{List}
use mathlib.Core.Bool.{Bool, true, false, cond}
use lib.ListN.{length}
use lib.Dec.{ltb, eqb}
use borrow.Author.Tests.{ltb-true, eqb-true, eqb-false}
use Rattle.laws.proofs.Tests.{and_true}
use Rattle.answers.specs.declared.Refusal.TheVariants as refusal
use Rattle.rows.specs.declared.Key.{Key}
use Rattle.rows.specs.declared.Entry.{Entry}
use Rattle.rows.specs.declared.Room.{Room}
use Rattle.rows.specs.Rows.{table_word, row_of, touched, room_in, room_renewed, room_new, kept_heads, last_of}
use Rattle.rows.proofs.Words.{touched_not, kept_fresh, kept_known}
use Rattle.ticks.proofs.Touch.{row_has_key}
use Rattle.arrivals.specs.declared.Arrival.{Arrival}
use Rattle.placing.specs.Places.{place_of, PlaceOk}
use Rattle.placing.specs.declared.Place.{Place}
use Rattle.placing.specs.declared.Place.TheVariants as place
use Rattle.placing.proofs.Laws.{place_ok}
use Rattle.units.specs.Units.{first_table, all_present}
use Rattle.schedules.specs.Schedules.{table_count, tables_of, room_known, room_of, scheduled_heads, scheduled_units, tables_there, RoomFits}
use Rattle.schedules.specs.declared.ScheduleRoom.{ScheduleRoom}
use Rattle.schedules.proofs.Laws.{room_may}
use Rattle.ties_eit.proofs.Entered.{new_fresh}
use Rattle.eit_state.specs.declared.PushAnswer.{PushAnswer}
use Rattle.eit_state.specs.declared.PushAnswer.TheVariants as answer
use Rattle.eit_state.specs.State.{Store, Rows, rows, rows_of, risen_rows, set_store, Whole}
use Rattle.eit_plan.specs.declared.Plan.{Plan}
use Rattle.eit_plan.specs.declared.Plan.TheVariants as plan
use Rattle.eit_plan.specs.Plan.{free_cell, plan_placed, plan_of}
use Rattle.eit_becomes.specs.declared.Becomes.{Becomes}
use Rattle.eit_becomes.specs.declared.Becomes.TheVariants as becomes
use Rattle.eit_becomes.specs.Becoming.{own_table, becomes_of, is_marked}
use Rattle.eit_settle.specs.Settle.{marked_heads, settled_as, settled}
use Rattle.eit_carry.specs.Carried.{kept_and_settled, carried, pushed_whole}
use Rattle.eit_enter.specs.Entering.{schedule_entry, entered_answer, entered_in, entered}

-- the row that is told is in use; of a schedule all tables are there
abbrev pub ToldRow : PushAnswer → Rows → Type 0
ToldRow answer.Nothing r = Unit {0}
ToldRow (answer.Set i) r = i < r.eit.sets.used
ToldRow (answer.Schedule k) r = (k < r.eit.schedules) × (all_present r.units (k * 16) (tables_of r.schedule_heads k) ≡ true)
ToldRow (answer.Refused x) r = Unit {0}

-- ---- a schedule's head, once a set went into it

module _ (heads : List ℕ) (limit held evictions : ℕ) (e : Entry) (few : held ≤ limit) (some : 0 < limit) (long : limit * 12 ≤ length heads) where
  abbrev there : ℕ
  there = row_of heads e.key held

  -- what the head says of its kind and of its last table
  abbrev Head : Room → Type 0
  Head r = (table_word (kept_heads r e heads) r.row ≡ e.key.table_id) × (last_of (kept_heads r e heads) r.row ≡ e.last)

  fresh_head : (r : Room) → r.fresh ≡ true → r.row * 12 + 12 ≤ length heads → Head r
  fresh_head r f l = (kept_fresh r e heads l f 1 (omega arith), kept_fresh r e heads l f 7 (omega arith))

  known_head : there < held → last_of heads there ≡ e.last → Head (room_in held evictions there)
  known_head h q =
      let l : there * 12 + 12 ≤ length heads = omega (arith, h, few, long) in
      let r : Room = room_in held evictions there in
      (kept_known r e heads l refl 1 (omega arith) (omega arith) ∙ ap (λ (k : Key). k.table_id) (row_has_key heads e.key held h), kept_known r e heads l refl 7 (omega arith) (omega arith) ∙ q)

  row_in : (r : ScheduleRoom) → RoomFits limit r → r.room.row * 12 + 12 ≤ length heads
  row_in r f = omega (arith, f.row, f.room, long)

  head_is : Head (room_of heads limit held evictions e).room
  unfolding room_of room_known
  head_is = go (ltb there held) (eqb (last_of heads there) e.last) refl refl (room_may heads limit held evictions e (room_of heads limit held evictions e) some few refl)
    where
      found : Bool → Bool → ScheduleRoom
      found b c =
          cond b
          (cond c (record { room = room_in held evictions there; refill = false }) (record { room = room_renewed held evictions there; refill = true }))
          (record { room = room_new heads limit held evictions; refill = false })

      go : (b c : Bool) → ltb there held ≡ b → eqb (last_of heads there) e.last ≡ c → RoomFits limit (found b c) → Head (found b c).room
      go true true p q f = known_head (ltb-true there held p) (eqb-true (last_of heads there) e.last q)
      go true false p q f = fresh_head (room_renewed held evictions there) refl (row_in (record { room = room_renewed held evictions there; refill = true }) f)
      go false c p q f = fresh_head (room_new heads limit held evictions) (new_fresh heads limit held evictions) (row_in (record { room = room_new heads limit held evictions; refill = false }) f)

  -- so its tables are those of the entry
  tables_are : (clock : ℕ) (r : ScheduleRoom) → r ≡ room_of heads limit held evictions e → tables_of (scheduled_heads clock r.room e heads) r.room.row ≡ table_count e.key.table_id e.last
  unfolding tables_of scheduled_heads
  tables_are clock r q =
      let h : Head r.room = rw q head_is in
      rw (
        touched_not clock r.room.row (kept_heads r.room e heads) r.room.row 1 (omega arith) (omega arith),
        touched_not clock r.room.row (kept_heads r.room e heads) r.room.row 7 (omega arith) (omega arith),
        h.0,
        h.1,
      ) refl

-- ---- a row that is settled

module _ (r : Rows) (a : Arrival) (i : ℕ) (row : i < r.eit.sets.used) (used : r.eit.sets.used ≤ r.eit.sets.limit) (few : r.eit.schedules ≤ r.eit.sets.limit)
    (long : r.eit.sets.limit * 12 ≤ length r.schedule_heads) where
  entered_told : ToldRow (entered r a i).answer (entered r a i).rows
  unfolding entered entered_in tables_there
  entered_told = go (tables_there units there.room.row e) refl
    where
      e : Entry
      e = schedule_entry a

      there : ScheduleRoom
      there = room_of r.schedule_heads r.eit.sets.limit r.eit.schedules r.eit.schedule_evictions (schedule_entry a)

      units : List ℕ
      units = scheduled_units r.heads r.slots r.eit.sets.used (schedule_entry a) (own_table a) i there r.units

      go : (b : Bool) → tables_there units there.room.row e ≡ b → ToldRow (entered_answer b there.room.row) (entered_in r a i there).rows
      go true q =
          let f = room_may r.schedule_heads r.eit.sets.limit r.eit.schedules r.eit.schedule_evictions e there (omega (arith, row, used)) few refl in
          let n = tables_are r.schedule_heads r.eit.sets.limit r.eit.schedules r.eit.schedule_evictions e few (omega (arith, row, used)) long r.eit.sets.clock there refl in
          (f.row, ap (all_present units (there.room.row * 16)) n ∙ (and_true (ltb (e.last - first_table e.key.table_id) 16) (all_present units (there.room.row * 16) (table_count e.key.table_id e.last)) q).1)
      go false q = tt

settled_told : (r : Rows) (a : Arrival) (i : ℕ) → i < r.eit.sets.used → r.eit.sets.used ≤ r.eit.sets.limit → r.eit.schedules ≤ r.eit.sets.limit
    → r.eit.sets.limit * 12 ≤ length r.schedule_heads → ToldRow (settled r a i).answer (settled r a i).rows
unfolding settled
settled_told r a i row used few long = go (becomes_of (touched r.eit.sets.clock i r.heads) r.slots a i)
  where
    left : Becomes → Rows
    left b = rows r.eit (marked_heads (is_marked b) i (touched r.eit.sets.clock i r.heads)) r.slots r.schedule_heads r.units

    go : (b : Becomes) → ToldRow (settled_as b (left b) a i).answer (settled_as b (left b) a i).rows
    go becomes.Stays = tt
    go becomes.GoesOut = row
    go becomes.OutOfRange = tt
    go becomes.Enters = entered_told (left becomes.Enters) a i row used few long

-- ---- a section

pub told_row : (s : Store) → Whole s → (bytes : List ℕ) (a : Arrival) → ToldRow (pushed_whole s bytes a).answer (rows_of (pushed_whole s bytes a).store)
unfolding pushed_whole plan_of kept_and_settled
told_row s w bytes a = go (ltb s.eit.sets.size (length bytes)) (eqb s.eit.sets.limit 0) refl
  where
    Fine : Plan → Type 0
    Fine p = ToldRow (carried s bytes p).answer (rows_of (carried s bytes p).store)

    placed : (p : Place) → PlaceOk (set_store s) p → Fine (plan_placed s a p)
    placed (place.Conflict i) o = tt
    placed (place.Repeat i) o = settled_told (risen_rows (rows_of s)) a i o w.sets.used w.schedules w.schedule_heads_long
    placed (place.Goes r) o = cell (ltb (free_cell (rows_of s) (place.Goes r)) s.eit.sets.count)
      where
        cell : (b : Bool) → Fine (cond b (plan.Keep (record { arrival = a; room = r; cell = free_cell (rows_of s) (place.Goes r) })) (plan.Leave (answer.Refused refusal.NoCell)))
        cell true = settled_told _ a r.row o.row o.room w.schedules w.schedule_heads_long
        cell false = tt

    go : (x y : Bool) → eqb s.eit.sets.limit 0 ≡ y
        → Fine (cond x (plan.Leave (answer.Refused refusal.TooLong)) (cond y (plan.Leave answer.Nothing) (plan_placed s a (place_of (set_store s) a.entry bytes))))
    go true y q = tt
    go false true q = tt
    go false false q =
        let z = eqb-false s.eit.sets.limit 0 q in
        placed (place_of (set_store s) a.entry bytes) (place_ok (set_store s) w.sets a.entry bytes (omega (arith, z)))

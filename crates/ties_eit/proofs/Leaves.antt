-- What a conflict leaves, which cells are free, and when a cell's bytes change.
-- Assumes nothing.
use mathlib.Core.Path.{◌≡◌, refl, sym, ap, subst, ◌∙◌}
use mathlib.Core.Logic.{◌≢◌, ◌⊎◌, inl, inr}
use mathlib.Core.Bool.{Bool, true, false, ◌||◌}
use mathlib.Core.List.{List}
use Prim.Native.Nat.{ℕ, ◌+◌, ◌*◌, ◌≤◌, ◌<◌}
use native.Mathlib.Omega.{arith}
use lib.ListN.{length, get_or}
use Rattle.laws.proofs.Tests.{or_false}
use Rattle.laws.proofs.Search.{any_not, none_any}
use Rattle.rules_shared.specs.Same.{Bytes}
use Rattle.rules_shared.specs.Touch.{some_row}
use Rattle.rules_eit.specs.Keys.{SetKey}
use Rattle.answers.specs.declared.Refusal.TheVariants as refusal
use Rattle.rules_eit.specs.Rules.{Section, offer, number_of, refused}
use Rattle.rules_eit.specs.Cells.{Store as Shown, set_takes, schedule_takes, taken}
use Rattle.rules_eit.proofs.Exact.{Conflicting, conflict_touches}
use Rattle.rules_eit.proofs.Free.{KeptIn, cells_change}
use Rattle.cells.specs.Cells.{names, some_names}
use Rattle.rows.specs.Rows.{word, touched, slots_at, slot_count, row_slots, last_of, tick_of}
use Rattle.rows.proofs.Words.{slot_at, length_slots, touched_not}
use Rattle.ticks.specs.Order.{rows_seen}
use Rattle.ticks.proofs.Ticks.{order_none, none_order}
use Rattle.std.specs.Prelude.{Option, Result, Ok, Err}
use Rattle.answers.specs.declared.Refusal.{Refusal}
use Rattle.units.specs.Units.{is_present, unit_slots}
use Rattle.schedules.specs.Schedules.{tables_of, room_of, scheduled_units, tables_there}
use Rattle.schedules.specs.declared.ScheduleRoom.{ScheduleRoom}
use Rattle.arrivals.specs.declared.Arrival.{Arrival}
use Rattle.eit_becomes.specs.declared.Becomes.{Becomes}
use Rattle.eit_becomes.specs.declared.Becomes.TheVariants as becomes
use Rattle.eit_plan.specs.declared.Plan.{Plan}
use Rattle.eit_plan.specs.declared.Plan.TheVariants as plan
use Rattle.eit_state.specs.State.{Store, Rows, rows, rows_of, risen_eit, risen_rows}
use Rattle.eit_plan.specs.Plan.{plan_of}
use Rattle.eit_becomes.specs.Becoming.{own_table, becomes_of, is_marked}
use Rattle.eit_enter.specs.Entering.{schedule_entry, entered_answer, entered_in, entered}
use Rattle.eit_settle.specs.Settle.{marked_heads, settled_as, settled}
use Rattle.eit_carry.specs.Carried.{kept_and_settled, carried, pushed_whole}
use Rattle.eit.specs.Store.{told_step, answer_of, pushed_as, pushed_of}
use Rattle.eit_admit.specs.Admitting.{admitted}
use Rattle.ties_eit.specs.View.{seen, reads, answer_told, tells, acts, Given, section, Fitting, Reached}
use Rattle.ties_eit.proofs.Rows.{row_takes}
use Rattle.ties_eit.proofs.Places.{schedules_taken, named_units, units_named}
use Rattle.ties_eit.proofs.History.{tells_seen, acts_seen}

-- ---- 22: "key becomes newest, else as before"

module _ (s : Store) (z : Reached s) (i : Given) (o : Fitting i) where
  pub conflict_leaves : tells s i ≡ (refused refusal.Conflict) → (x : Section) × (k : SetKey) × (reads i ≡ offer x) × Conflicting (seen s) x k (seen (acts s i))
  conflict_leaves h =
      let r = conflict_touches (seen s) (reads i) (sym (tells_seen s z i o) ∙ h) in
      (r.0, r.1, r.2, subst (Conflicting (seen s) r.0 r.1) (sym (acts_seen s z i o)) r.3)

  -- "a cell's bytes change only when a section is kept in it"
  pub cells_change_seen : ((seen (acts s i)).cells ≡ (seen s).cells) ⊎ ((x : Section) × (k : SetKey) × (reads i ≡ offer x) × (c : ℕ) × KeptIn (seen s) x k c (seen (acts s i)))
  cells_change_seen =
      subst (λ (q : Shown). (q.cells ≡ (seen s).cells) ⊎ ((x : Section) × (k : SetKey) × (reads i ≡ offer x) × (c : ℕ) × KeptIn (seen s) x k c q)) (sym (acts_seen s z i o)) (cells_change (seen s) (reads i))

-- no setting, no eviction count, no slot, no cell, no word of a schedule and no word of a head but the ticks changes, and the clock is as before or one more,
-- whatever the memory holds
pub record TicksAlone (s after : Store) : Type 0 where
  pub eit : (after.eit ≡ s.eit) ⊎ (after.eit ≡ risen_eit s.eit)
  pub heads : (j m : ℕ) → m ≢ 9 → m < 12 → word after.heads j m ≡ word s.heads j m
  pub slots : after.slots ≡ s.slots
  pub cells : after.cells ≡ s.cells
  pub schedule_heads : after.schedule_heads ≡ s.schedule_heads
  pub units : after.units ≡ s.units

-- settling a row does not answer 22
entering_tells : (r : Rows) (a : Arrival) (i : ℕ) (b : ScheduleRoom) (s : Store) → number_of (answer_told (answer_of (entered_in r a i b).answer s)) ≢ 22
unfolding number_of answer_told entered_in
entering_tells r a i b s =
    go (tables_there (scheduled_units r.heads r.slots r.eit.sets.used (schedule_entry a) (own_table a) i b r.units) b.room.row (schedule_entry a))
  where
    go : (t : Bool) → number_of (answer_told (answer_of (entered_answer t b.room.row) s)) ≢ 22
    go true q = omega arith
    go false q = omega arith

settling_tells : (c : Becomes) (r : Rows) (a : Arrival) (i : ℕ) (s : Store) → number_of (answer_told (answer_of (settled_as c r a i).answer s)) ≢ 22
unfolding number_of answer_told entered
settling_tells becomes.Stays r a i s q = omega arith
settling_tells becomes.GoesOut r a i s q = omega arith
settling_tells becomes.OutOfRange r a i s q = omega arith
settling_tells becomes.Enters r a i s q =
    entering_tells r a i (room_of r.schedule_heads r.eit.sets.limit r.eit.schedules r.eit.schedule_evictions (schedule_entry a)) s q

settled_tells : (r : Rows) (a : Arrival) (i : ℕ) (s : Store) → number_of (answer_told (answer_of (settled r a i).answer s)) ≢ 22
unfolding settled
settled_tells r a i s =
    let heads : List ℕ = touched r.eit.sets.clock i r.heads in
    let b : Becomes = becomes_of heads r.slots a i in
    settling_tells b (rows r.eit (marked_heads (is_marked b) i heads) r.slots r.schedule_heads r.units) a i s

plan_ticks : (s : Store) (bytes : Bytes) (p : Plan) → number_of (answer_told (told_step (carried s bytes p)).told) ≡ 22 → TicksAlone s (carried s bytes p).store
unfolding kept_and_settled
plan_ticks s bytes (plan.Leave a) h = record { eit = inl refl; heads = λ j m n l. refl; slots = refl; cells = refl; schedule_heads = refl; units = refl }
plan_ticks s bytes (plan.Conflict i) h =
    record { eit = inr refl; heads = λ j m n l. touched_not (s.eit.sets.clock + 1) i s.heads j m n l; slots = refl; cells = refl; schedule_heads = refl; units = refl }
plan_ticks s bytes (plan.Repeat x) h = absurd (settled_tells (risen_rows (rows_of s)) x.arrival x.row _ h)
plan_ticks s bytes (plan.Keep k) h = absurd (settled_tells _ k.arrival k.room.row _ h)

push_ticks : (s : Store) (bytes : Bytes) (v : Result Arrival Refusal) → number_of (answer_told (pushed_as s bytes v).told) ≡ 22 → TicksAlone s (pushed_as s bytes v).store
unfolding pushed_whole
push_ticks s bytes (Err r) h = record { eit = inl refl; heads = λ j m n l. refl; slots = refl; cells = refl; schedule_heads = refl; units = refl }
push_ticks s bytes (Ok a) h = plan_ticks s bytes (plan_of s bytes a) h

pub conflict_memory : (s : Store) (input : ℕ) (pid : Option ℕ) (bytes : Bytes) → tells s (section input pid bytes) ≡ (refused refusal.Conflict) → TicksAlone s (acts s (section input pid bytes))
unfolding tells acts pushed_of number_of
conflict_memory s input pid bytes h = push_ticks s bytes (admitted s input pid bytes) (ap number_of h)

-- ---- "A cell is free exactly when no slot or schedule copy of a row in use names it"

module _ (s : Store) (z : Reached s) (long : s.eit.sets.used * 288 ≤ length s.slots) (c : ℕ) where
  abbrev NoSlotNames : Type 0
  NoSlotNames = (j n : ℕ) → j < s.eit.sets.used → n < slot_count (last_of s.heads j) → names c (get_or s.slots (slots_at j + n) 0) ≡ false

  -- of a table that is present, up to its schedule's last_table_id
  abbrev NoTableNames : Type 0
  NoTableNames = (k j : ℕ) → k < s.eit.schedules → j < tables_of s.schedule_heads k → is_present s.units (k * 16 + j) ≡ true → some_names c (unit_slots s.units (k * 16 + j)) ≡ false

  pub free_named_nowhere : taken (seen s).eit c ≡ false → NoSlotNames × NoTableNames
  unfolding taken seen rows_seen
  free_named_nowhere h = (slots, tables)
    where
      p : (some_row (set_takes c) (seen s).eit.sets.rows ≡ false) × (some_row (schedule_takes c) (seen s).eit.schedules.rows ≡ false)
      p = or_false (some_row (set_takes c) (seen s).eit.sets.rows) (some_row (schedule_takes c) (seen s).eit.schedules.rows) h

      slots : NoSlotNames
      slots j n l m =
          let r = sym (row_takes s.heads s.slots c j) ∙ none_order (tick_of s.heads) s.eit.sets.used s.eit.sets.clock z.sets.ticks _ (set_takes c) j p.0 l in
          subst (λ (w : ℕ). names c w ≡ false) (slot_at s.heads s.slots j n m)
          (any_not (names c) (row_slots s.heads s.slots j) 0 n r (let d = length_slots s.heads s.slots j (omega arith) in omega arith))

      tables : NoTableNames
      tables = named_units s.schedule_heads s.units s.eit.schedules c (sym (schedules_taken s.schedule_heads s.units s.eit.schedules s.eit.sets.clock c z.schedules.ticks) ∙ p.1)

  pub named_nowhere_free : NoSlotNames → NoTableNames → taken (seen s).eit c ≡ false
  unfolding taken seen rows_seen
  named_nowhere_free f g = both sets_free (schedules_taken s.schedule_heads s.units s.eit.schedules s.eit.sets.clock c z.schedules.ticks ∙ units_named s.schedule_heads s.units s.eit.schedules c g)
    where
      both : {a b : Bool} → a ≡ false → b ≡ false → (a || b) ≡ false
      both p q = rw p q

      sets_free : some_row (set_takes c) (seen s).eit.sets.rows ≡ false
      sets_free =
          order_none (tick_of s.heads) s.eit.sets.used s.eit.sets.clock z.sets.ticks _ (set_takes c) (λ j l. row_takes s.heads s.slots c j
          ∙ none_any (names c) (row_slots s.heads s.slots j) 0 (λ n m.
          let d = length_slots s.heads s.slots j (omega arith) in
          let q : n < slot_count (last_of s.heads j) = omega arith in
          ap (names c) (slot_at s.heads s.slots j n q) ∙ f j n l q))

-- A refusal leaves everything as it was, but 22, which makes the key the newest by the next tick of the clock, and 23, which keeps the section.
-- Assumes nothing.
use mathlib.Core.Path.{◌≡◌, refl, ◌∙◌}
use mathlib.Core.Logic.{◌≢◌}
use mathlib.Core.List.{List}
use mathlib.Core.Bool.{Bool, true, false, cond}
use Prim.Native.Nat.{ℕ, ◌≤◌, ◌<◌}
use native.Mathlib.Omega.{arith}
use Rattle.answers.specs.declared.Refusal.TheVariants as refusal
use Rattle.std.specs.Prelude.{Option, Result, Ok, Err}
use Rattle.answers.specs.declared.Refusal.{Refusal}
use Rattle.rows.specs.Rows.{touched}
use Rattle.arrivals.specs.declared.Arrival.{Arrival}
use Rattle.schedules.specs.Schedules.{room_of, scheduled_units, tables_there}
use Rattle.schedules.specs.declared.ScheduleRoom.{ScheduleRoom}
use Rattle.eit_state.specs.declared.PushAnswer.{PushAnswer}
use Rattle.eit_state.specs.declared.PushAnswer.TheVariants as answer
use Rattle.eit_state.specs.State.{Store, store, Rows, rows, rows_of, risen_rows, whole_of, push_number, empty_eit}
use Rattle.eit_plan.specs.declared.Plan.{Plan}
use Rattle.eit_plan.specs.declared.Plan.TheVariants as plan
use Rattle.eit_plan.specs.Plan.{plan_of}
use Rattle.eit_becomes.specs.declared.Becomes.{Becomes}
use Rattle.eit_becomes.specs.declared.Becomes.TheVariants as becomes
use Rattle.eit_becomes.specs.Becoming.{own_table, becomes_of, is_marked}
use Rattle.eit_settle.specs.Settle.{marked_heads, settled_as, settled}
use Rattle.eit_carry.specs.Carried.{Step, kept_and_settled, carried, pushed_whole}
use Rattle.eit_enter.specs.Entering.{schedule_entry, entered_answer, entered_in, entered}
use Rattle.eit_pids.specs.Rows.{any_without}
use Rattle.eit_drop.specs.declared.Filter.{Filter}
use Rattle.filter.specs.declared.Fields.{Fields}
use Rattle.eit.specs.Store.{After, after, number, done, refused, answer_of, told_step, cleared_of, carried_drop, dropped_of, pushed_as, pushed_of}
use Rattle.eit_admit.specs.Admitting.{drop_of, admitted}

-- a section that settles a row answers 4, 5, 6 or 23
entering : (r : Rows) (a : Arrival) (i : ℕ) (b : ScheduleRoom) → push_number (entered_in r a i b).answer < 10
unfolding entered_in
entering r a i b =
    go (tables_there (scheduled_units r.heads r.slots r.eit.sets.used (schedule_entry a) (own_table a) i b r.units) b.room.row (schedule_entry a))
  where
    go : (all : Bool) → push_number (entered_answer all b.room.row) < 10
    go true = omega arith
    go false = omega arith

settling : (c : Becomes) (r : Rows) (a : Arrival) (i : ℕ) → 10 ≤ push_number (settled_as c r a i).answer → push_number (settled_as c r a i).answer ≡ 23
unfolding entered
settling becomes.Stays r a i h = absurd (omega arith)
settling becomes.GoesOut r a i h = absurd (omega arith)
settling becomes.OutOfRange r a i h = refl
settling becomes.Enters r a i h =
    absurd (omega (arith, entering r a i (room_of r.schedule_heads r.eit.sets.limit r.eit.schedules r.eit.schedule_evictions (schedule_entry a))))

settled_past : (r : Rows) (a : Arrival) (i : ℕ) → 10 ≤ push_number (settled r a i).answer → push_number (settled r a i).answer ≡ 23
unfolding settled
settled_past r a i =
    let heads : List ℕ = touched r.eit.sets.clock i r.heads in
    let b : Becomes = becomes_of heads r.slots a i in
    settling b (rows r.eit (marked_heads (is_marked b) i heads) r.slots r.schedule_heads r.units) a i

carried_keeps : (s : Store) (bytes : List ℕ) (p : Plan) → 10 ≤ push_number (carried s bytes p).answer → push_number (carried s bytes p).answer ≢ 22 → push_number (carried s bytes p).answer ≢ 23 → (carried s bytes p).store ≡ s
unfolding kept_and_settled
carried_keeps s bytes (plan.Leave a) h k l = refl
carried_keeps s bytes (plan.Conflict i) h k l = absurd (k refl)
carried_keeps s bytes (plan.Repeat x) h k l = absurd (l (settled_past (risen_rows (rows_of s)) x.arrival x.row h))
carried_keeps s bytes (plan.Keep n) h k l = absurd (l (settled_past _ n.arrival n.room.row h))

-- the number that is told is the answer's
pub told_number : (a : PushAnswer) (s : Store) → number (answer_of a s) ≡ push_number a
told_number answer.Nothing s = refl
told_number (answer.Set i) s = refl
told_number (answer.Schedule k) s = refl
told_number (answer.Refused r) s = refl

step_keeps : (s : Store) (x : Step) → (10 ≤ push_number x.answer → push_number x.answer ≢ 22 → push_number x.answer ≢ 23 → x.store ≡ s)
    → 10 ≤ number (told_step x).told → number (told_step x).told ≢ 22 → number (told_step x).told ≢ 23 → x.store ≡ s
step_keeps s x f h k l =
    let e = told_number x.answer x.store in
    f (rw e at h) (λ (q : push_number x.answer ≡ 22). k (e ∙ q)) (λ (q : push_number x.answer ≡ 23). l (e ∙ q))

admitted_keeps : (s : Store) (bytes : List ℕ) (v : Result Arrival Refusal) → 10 ≤ number (pushed_as s bytes v).told → number (pushed_as s bytes v).told ≢ 22 → number (pushed_as s bytes v).told ≢ 23 → (pushed_as s bytes v).store ≡ s
unfolding pushed_whole
admitted_keeps s bytes (Err r) h k l = refl
admitted_keeps s bytes (Ok a) h k l = step_keeps s (carried s bytes (plan_of s bytes a)) (carried_keeps s bytes (plan_of s bytes a)) h k l

-- every refusal but 22 and 23
pub push_keeps : (s : Store) (input : ℕ) (pid : Option ℕ) (bytes : List ℕ) → 10 ≤ number (pushed_of s input pid bytes).told → number (pushed_of s input pid bytes).told ≢ 22 → number (pushed_of s input pid bytes).told ≢ 23 → (pushed_of s input pid bytes).store ≡ s
unfolding pushed_of
push_keeps s input pid bytes h k l = admitted_keeps s bytes (admitted s input pid bytes) h k l

carried_drop_keeps : (s : Store) (d : Result Fields Refusal) → 10 ≤ number (carried_drop s d).told → (carried_drop s d).store ≡ s
carried_drop_keeps s (Err r) h = refl
carried_drop_keeps s (Ok f) h = absurd (omega arith)

-- 10, 41, 12 and 37
pub drop_keeps : (s : Store) (f : Filter) → 10 ≤ number (dropped_of s f).told → (dropped_of s f).store ≡ s
unfolding dropped_of
drop_keeps s f h = carried_drop_keeps s (drop_of s f) h

-- 10 and 41
pub clear_keeps : (s : Store) → 10 ≤ number (cleared_of s).told → (cleared_of s).store ≡ s
unfolding cleared_of
clear_keeps s h = go (whole_of s) (any_without s.eit s.heads s.schedule_heads) h
  where
    left : Bool → Bool → After
    left b w =
        cond b
        (cond w (after (refused refusal.NoPid) s) (after done (store (empty_eit s.eit) s.heads s.slots s.cells s.schedule_heads s.units)))
        (after (refused refusal.NotWhole) s)

    go : (b w : Bool) → 10 ≤ number (left b w).told → (left b w).store ≡ s
    go true true h = refl
    go true false h = absurd (omega arith)
    go false w h = refl

-- Every history of opening, pushes, drops and clears: what the store of the EIT collector answers and shows is what the rules answer and leave; 10 never occurs;
-- refusals but 22 and 23 leave the memory as before; 41 comes only from a call without a PID; 21 exactly where the rules would keep a section and every cell is named.
-- Assumes nothing.
use mathlib.Core.Path.{◌≡◌, refl, sym, ap, subst, ◌∙◌}
use mathlib.Core.Logic.{◌≢◌}
use mathlib.Core.Bool.{Bool, true, false, cond, true≢false}
use mathlib.Core.Option.{Option, none, some}
use mathlib.Core.List.{List, [], ◌∷◌, map}
use Prim.Native.Nat.{ℕ, suc}
use native.Mathlib.Omega.{arith}
use lib.Dec.{ltb}
use lib.ListN.{length}
use Rattle.rules_shared.specs.Same.{Bytes, Origin}
use Rattle.rules_shared.specs.Touch.{untouched, on_order, seen_as}
use Rattle.rules_shared.specs.Cells.{Settings}
use Rattle.laws.specs.Runs.{answers, store_after, At, Never, Obeys, bars, does}
use Rattle.laws.proofs.Tests.{none≢some}
use Rattle.laws.proofs.Runs.{each_read, answers_read, same_answers as run_same}
use Rattle.rules_eit.specs.Keys.{Kind, same_set, same_schedule, exactly, no_pid, bad_pid, bad_input, bad_filter}
use Rattle.answers.specs.declared.Refusal.TheVariants as refusal
use Rattle.rules_eit.specs.Rules.{Eit, Section, offer, refuse, Answer, done, refused, nothing, handout, schedule, barred, as_before, tells as rules_tell, acts as rules_act, opened as rules_opened}
use Rattle.rules_eit.specs.Cells.{Store as Shown, on_eit, view, store_whole, call_tells, call_acts}
use Rattle.rules_eit.proofs.Keys.{same_set_true, same_schedule_true}
use Rattle.rules_eit.proofs.Cells.{obeys_rules, settings_stay}
use Rattle.rules_eit.proofs.Whole.{LongEnough, never_10, whole_stays, opened_whole as rules_opened_whole}
use Rattle.rules_eit.proofs.Exact.{NeedsCell, only_then_21, then_21, SaysNone, only_then_41}
use Rattle.section.specs.Judged.{collected_of}
use Rattle.eit_section.specs.Eit.{eit_of}
use Rattle.section.specs.declared.header.Header.{Header}
use Rattle.std.specs.Prelude.{Some, None, Result, Ok, Err}
use Rattle.answers.specs.declared.Refusal.{Refusal}
use Rattle.eit_section.specs.declared.Eit as eit_section_eit
use Rattle.ticks.proofs.Touch.{seen_none, stands_none}
use Rattle.rows.specs.Rows.{touched}
use Rattle.schedules.specs.declared.ScheduleRoom.{ScheduleRoom}
use Rattle.schedules.specs.Schedules.{room_of, scheduled_units, tables_there}
use Rattle.eit_drop.specs.declared.Filter.{Filter}
use Rattle.eit_drop.specs.declared.WantedPid.{WantedPid}
use Rattle.eit_drop.specs.declared.WantedPid.TheVariants as wanted_pid
use Rattle.filter.specs.declared.Fields.{Fields}
use Rattle.arrivals.specs.declared.Arrival.{Arrival}
use Rattle.eit_becomes.specs.declared.Becomes.{Becomes}
use Rattle.eit_becomes.specs.declared.Becomes.TheVariants as becomes
use Rattle.eit_plan.specs.declared.Plan.{Plan}
use Rattle.eit_plan.specs.declared.Plan.TheVariants as plan
use Rattle.eit_state.specs.State.{Store, store, rows, rows_of, risen_rows, asked, settings_fit, whole_of, Rows as EitRows, empty_eit}
use Rattle.rules_shared.specs.Refusals as refusals
use Rattle.eit_plan.specs.Plan.{plan_of}
use Rattle.eit_becomes.specs.Becoming.{own_table, becomes_of, is_marked}
use Rattle.eit_enter.specs.Entering.{schedule_entry, entered_answer, entered_in, entered}
use Rattle.eit_settle.specs.Settle.{marked_heads, settled_as, settled}
use Rattle.eit_carry.specs.Carried.{kept_and_settled, carried, pushed_whole}
use Rattle.eit.specs.Store as eit
use Rattle.eit.specs.Store.{After, after, told_step, answer_of, opened_of, cleared_of, carried_drop, dropped_of, pushed_as, pushed_of}
use Rattle.eit_admit.specs.Admitting.{drop_of, admitted}
use Rattle.eit_pids.specs.Rows.{any_without}
use Rattle.ties_eit.specs.View.{key_shown, schedule_shown, key_words, schedule_words, row_seen, schedule_seen, seen, settings_of, section_of, reads_eit, reads_as, read_on, read_section, reads, wanted_as, pid_test, filter_shown, answer_told, tells, acts, Given, clears, drops, section, Fitting, Opened, Reached}
use Rattle.ties_eit.proofs.Keys.{set_self, schedule_self}
use Rattle.ties_eit.proofs.Pids.{each_has_pid}
use Rattle.ties_eit.proofs.Calls.{tied, room_there, whole_seen}
use Rattle.ties_eit.proofs.Arrivals.{good_length}

-- ---- opening

pub opened_reached : (s : Store) → Opened s → Reached s
unfolding opened_of
opened_reached s o = record {
  fits = go (settings_fit s.eit (length s.heads) (length s.slots) (length s.cells) (length s.schedule_heads) (length s.units)) o.opened;
  counts = let e = o.evictions in omega arith;
  ticks = let e = o.clock in omega arith;
  schedule_counts = let e = o.schedule_evictions in omega arith;
  heads_fit = λ i h. let e = o.sets in absurd (omega arith);
  sets = rw o.sets (stands_none key_shown key_words same_set same_set_true set_self s.heads s.eit.sets.clock);
  schedules = rw o.schedules (stands_none schedule_shown schedule_words same_schedule same_schedule_true schedule_self s.schedule_heads s.eit.sets.clock);
}
  where
    go : (b : Bool) → cond b eit.done (eit.refused refusal.TooLittle) ≡ eit.done → b ≡ true
    go true e = refl
    go false e = let z : ◌≡◌ {A = ℕ} 0 1 = cc in absurd (omega arith)

-- what `open` leaves where the settings fit: there are such stores, whatever the lent memory holds
pub opens : (limit size count : ℕ) (heads slots cells schedule_heads units : List ℕ) → settings_fit (asked limit size count) (length heads) (length slots) (length cells) (length schedule_heads) (length units) ≡ true
    → Opened (store (asked limit size count) heads slots cells schedule_heads units)
unfolding opened_of
opens limit size count heads slots cells schedule_heads units e =
    record { opened = ap (λ (b : Bool). cond b eit.done (eit.refused refusal.TooLittle)) e; sets = refl; evictions = refl; clock = refl; schedules = refl; schedule_evictions = refl }

-- "no rows, counts 0"
pub opened_seen : (s : Store) → Opened s → (seen s).eit ≡ record { sets = untouched; schedules = untouched }
unfolding seen untouched
opened_seen s o =
    rw (
      o.sets,
      o.evictions,
      o.schedules,
      o.schedule_evictions,
      seen_none key_shown key_words same_set same_set_true set_self s.heads s.eit.sets.clock (row_seen s.heads s.slots),
      seen_none schedule_shown schedule_words same_schedule same_schedule_true schedule_self s.schedule_heads s.eit.sets.clock (schedule_seen s.schedule_heads s.units),
    )

-- ---- one call

module _ (s : Store) (z : Reached s) (i : Given) (o : Fitting i) where
  pub tells_seen : tells s i ≡ call_tells (seen s) (reads i)
  unfolding tells call_tells
  tells_seen = (tied s z i o).told

  pub acts_seen : seen (acts s i) ≡ call_acts (seen s) (reads i)
  unfolding acts call_acts
  acts_seen = (tied s z i o).shown

  pub acts_reached : Reached (acts s i)
  unfolding acts
  acts_reached = (tied s z i o).reached

  pub acts_settings : settings_of (acts s i) ≡ settings_of s
  unfolding seen
  acts_settings = ap (λ (q : Shown). q.settings) acts_seen ∙ settings_stay (seen s) (reads i)

  -- 10, 11 and 21 aside, every answer and every next view is the rules'
  pub obeys : Obeys barred (λ (q : Store). view (seen q)) Reached tells acts (λ (d : Eit) (j : Given). rules_tell (settings_of s) d (reads j)) (λ (d : Eit) (j : Given). rules_act (settings_of s) d (reads j)) s i
  unfolding seen
  obeys = go (obeys_rules (seen s) (reads i))
    where
      go : Obeys barred view (λ q. Unit {0}) call_tells call_acts (rules_tell (settings_of s)) (rules_act (settings_of s)) (seen s) (reads i)
          → Obeys barred (λ (q : Store). view (seen q)) Reached tells acts (λ (d : Eit) (j : Given). rules_tell (settings_of s) d (reads j)) (λ (d : Eit) (j : Given). rules_act (settings_of s) d (reads j)) s i
      go (bars e) = bars (ap barred tells_seen ∙ e)
      go (does e v u) = does (tells_seen ∙ e) (ap view acts_seen ∙ v) acts_reached

  -- 21: only where the rules would keep the section and every cell is named after the eviction or the emptying; and there always
  pub no_cell_only : tells s i ≡ (refused refusal.NoCell) → (x : Section) × (kind : Kind) × (reads i ≡ offer x) × NeedsCell (seen s) x kind
  no_cell_only h = only_then_21 (seen s) (reads i) (sym tells_seen ∙ h)

  pub no_cell_there : (x : Section) (kind : Kind) → reads i ≡ offer x → NeedsCell (seen s) x kind → tells s i ≡ (refused refusal.NoCell)
  no_cell_there x kind q h = tells_seen ∙ ap (call_tells (seen s)) q ∙ then_21 (seen s) x kind h

-- ---- refusals: the memory is as before, whatever it holds

-- what settling a row answers changes something
entering_changes : (r : EitRows) (a : Arrival) (i : ℕ) (b : ScheduleRoom) (s : Store) → as_before (answer_told (answer_of (entered_in r a i b).answer s)) ≡ false
unfolding as_before answer_told entered_in
entering_changes r a i b s =
    go (tables_there (scheduled_units r.heads r.slots r.eit.sets.used (schedule_entry a) (own_table a) i b r.units) b.room.row (schedule_entry a))
  where
    go : (t : Bool) → as_before (answer_told (answer_of (entered_answer t b.room.row) s)) ≡ false
    go true = refl
    go false = refl

settling_changes : (c : Becomes) (r : EitRows) (a : Arrival) (i : ℕ) (s : Store) → as_before (answer_told (answer_of (settled_as c r a i).answer s)) ≡ false
unfolding as_before refusals.as_before answer_told entered
settling_changes becomes.Stays r a i s = refl
settling_changes becomes.GoesOut r a i s = refl
settling_changes becomes.OutOfRange r a i s = refl
settling_changes becomes.Enters r a i s = entering_changes r a i (room_of r.schedule_heads r.eit.sets.limit r.eit.schedules r.eit.schedule_evictions (schedule_entry a)) s

settled_changes : (r : EitRows) (a : Arrival) (i : ℕ) (s : Store) → as_before (answer_told (answer_of (settled r a i).answer s)) ≡ false
unfolding settled
settled_changes r a i s =
    let heads : List ℕ = touched r.eit.sets.clock i r.heads in
    let b : Becomes = becomes_of heads r.slots a i in
    settling_changes b (rows r.eit (marked_heads (is_marked b) i heads) r.slots r.schedule_heads r.units) a i s

plan_keeps : (s : Store) (bytes : Bytes) (p : Plan) → as_before (answer_told (told_step (carried s bytes p)).told) ≡ true → (carried s bytes p).store ≡ s
unfolding as_before refusals.as_before answer_told kept_and_settled
plan_keeps s bytes (plan.Leave a) h = refl
plan_keeps s bytes (plan.Conflict i) h = absurd (true≢false (sym h))
plan_keeps s bytes (plan.Repeat x) h = absurd (true≢false (sym h ∙ settled_changes (risen_rows (rows_of s)) x.arrival x.row _))
plan_keeps s bytes (plan.Keep k) h = absurd (true≢false (sym h ∙ settled_changes _ k.arrival k.room.row _))

push_keeps : (s : Store) (bytes : Bytes) (v : Result Arrival Refusal) → as_before (answer_told (pushed_as s bytes v).told) ≡ true → (pushed_as s bytes v).store ≡ s
unfolding pushed_whole
push_keeps s bytes (Err r) h = refl
push_keeps s bytes (Ok a) h = plan_keeps s bytes (plan_of s bytes a) h

drop_keeps : (s : Store) (d : Result Fields Refusal) → as_before (answer_told (carried_drop s d).told) ≡ true → (carried_drop s d).store ≡ s
unfolding as_before answer_told
drop_keeps s (Err a) h = refl
drop_keeps s (Ok f) h = absurd (true≢false (sym h))

pub as_before_lem : (s : Store) (i : Given) → as_before (tells s i) ≡ true → acts s i ≡ s
unfolding tells acts as_before answer_told cleared_of dropped_of pushed_of
as_before_lem s clears h = go (whole_of s) (any_without s.eit s.heads s.schedule_heads) h
  where
    cleared : Bool → Bool → After
    cleared b w =
        cond b
        (cond w (after (eit.refused refusal.NoPid) s) (after eit.done (store (empty_eit s.eit) s.heads s.slots s.cells s.schedule_heads s.units)))
        (after (eit.refused refusal.NotWhole) s)

    go : (b w : Bool) → as_before (answer_told (cleared b w).told) ≡ true → (cleared b w).store ≡ s
    go true true h = refl
    go true false h = absurd (true≢false (sym h))
    go false w h = refl
as_before_lem s (drops f) h = drop_keeps s (drop_of s f) h
as_before_lem s (section input pid bytes) h = push_keeps s bytes (admitted s input pid bytes) h

-- ---- many calls

abbrev pub EachFitting : List Given → Type 0
EachFitting calls = (t : ℕ) (i : Given) → At calls t i → Fitting i

-- the answers are those of the rules with cells
pub same_answers : (calls : List Given) → EachFitting calls → (s : Store) → Reached s → answers tells acts s calls ≡ answers call_tells call_acts (seen s) (map reads calls)
unfolding answers
same_answers [] o s z = refl
same_answers (i ∷ is) o s z =
    let p = tells_seen s z i (o 0 i refl) in
    let q = same_answers is (λ t j e. o (suc t) j e) (acts s i) (acts_reached s z i (o 0 i refl)) ∙ ap (λ (t : Shown). answers call_tells call_acts t (map reads is)) (acts_seen s z i (o 0 i refl)) in
    λ k. p k ∷ q k

pub same_store : (calls : List Given) → EachFitting calls → (s : Store) → Reached s → (seen (store_after acts s calls) ≡ store_after call_acts (seen s) (map reads calls)) × Reached (store_after acts s calls)
unfolding store_after
same_store [] o s z = (refl, z)
same_store (i ∷ is) o s z =
    let q = same_store is (λ t j e. o (suc t) j e) (acts s i) (acts_reached s z i (o 0 i refl)) in
    (q.0 ∙ ap (λ (t : Shown). store_after call_acts t (map reads is)) (acts_seen s z i (o 0 i refl)), q.1)

-- a section that is read has 12 bytes or more
eit_long : (from : Origin) (bytes : Bytes) (h : Header) → collected_of bytes ≡ Ok h → (r : Result eit_section_eit.Eit Refusal) → LongEnough (reads_eit from bytes h r)
unfolding reads_eit section_of
eit_long from bytes h e (Err refusal.NotEit) = good_length bytes h e
eit_long from bytes h e (Err r) = tt
eit_long from bytes h e (Ok f) = good_length bytes h e

read_long : (from : Origin) (bytes : Bytes) (c : Result Header Refusal) → collected_of bytes ≡ c → LongEnough (reads_as from bytes c)
unfolding reads_as
read_long from bytes (Err refusal.ShortForm) e = tt
read_long from bytes (Err r) e = tt
read_long from bytes (Ok h) e = eit_long from bytes h e (eit_of bytes)

on_long : (from : Origin) (bytes : Bytes) → LongEnough (read_on from bytes)
on_long from bytes = pick (ltb from.input 16)
  where
    pick : (b : Bool) → LongEnough (cond b (reads_as from bytes (collected_of bytes)) (refuse refusal.BadInput refl))
    pick true = read_long from bytes (collected_of bytes) refl
    pick false = tt

reads_long : (i : Given) → LongEnough (reads i)
unfolding reads read_section
reads_long clears = tt
reads_long (drops f) = tt
reads_long (section input None bytes) = tt
reads_long (section input (Some p) bytes) = pick (ltb p 8192)
  where
    pick : (b : Bool) → LongEnough (cond b (read_on (record { input = input; pid = p }) bytes) (refuse refusal.BadPid refl))
    pick true = on_long (record { input = input; pid = p }) bytes
    pick false = tt

-- in no history 10 occurs
pub never_not_whole : (s : Store) → Opened s → (calls : List Given) → EachFitting calls → Never (refused refusal.NotWhole) (answers tells acts s calls)
never_not_whole s o calls b =
    subst (Never (refused refusal.NotWhole)) (sym (same_answers calls b s (opened_reached s o)))
    (never_10 (seen s) (room_there s (opened_reached s o)) (opened_seen s o) (map reads calls) (each_read LongEnough reads reads_long calls))

-- so every store of a history is whole
pub opened_whole : (s : Store) → Opened s → whole_of s ≡ true
opened_whole s o = sym (whole_seen s (opened_reached s o)) ∙ rules_opened_whole (seen s) (room_there s (opened_reached s o)) (opened_seen s o)

pub stays_whole : (s : Store) → Reached s → whole_of s ≡ true → (i : Given) → Fitting i → whole_of (acts s i) ≡ true
stays_whole s z w i o =
    sym (whole_seen (acts s i) (acts_reached s z i o)) ∙ ap store_whole (acts_seen s z i o) ∙ whole_stays (seen s) (reads i) (reads_long i) (whole_seen s z ∙ w)

pub always_whole : (calls : List Given) → EachFitting calls → (s : Store) → Reached s → whole_of s ≡ true → Reached (store_after acts s calls) × (whole_of (store_after acts s calls) ≡ true)
unfolding store_after
always_whole [] o s z w = (z, w)
always_whole (i ∷ is) o s z w = always_whole is (λ t j e. o (suc t) j e) (acts s i) (acts_reached s z i (o 0 i refl)) (stays_whole s z w i (o 0 i refl))

-- ---- 41

-- a call without a PID: a drop of what has none, or a section that came on none
abbrev pub WithoutPid : Given → Type 0
WithoutPid clears = ⊥
WithoutPid (drops f) = f.pid ≡ wanted_pid.Without
WithoutPid (section input pid bytes) = pid ≡ None

-- in every history of opening, pushes with and without PIDs, drops and clears no set and no schedule is without a PID
pub never_41_by_store : (s : Store) → Opened s → (calls : List Given) → EachFitting calls
    → any_without (store_after acts s calls).eit (store_after acts s calls).heads (store_after acts s calls).schedule_heads ≡ false
never_41_by_store s o calls b = each_has_pid (store_after acts s calls) (same_store calls b s (opened_reached s o)).1

asks_none : (f : Filter) → bad_filter (filter_shown f) ≡ some refusal.NoPid → f.pid ≡ wanted_pid.Without
unfolding bad_filter filter_shown no_pid bad_pid bad_input
asks_none f e = go f.pid e
  where
    bad : (p i : Bool) → cond p (some refusal.BadPid) (cond i (some refusal.BadInput) none) ≡ some refusal.NoPid → ⊥
    bad true i e = let z : ◌≡◌ {A = ℕ} 0 1 = cc in omega arith
    bad false true e = let z : ◌≡◌ {A = ℕ} 0 1 = cc in omega arith
    bad false false e = none≢some refl e

    go : (p : WantedPid) → cond (no_pid (pid_test p)) (some refusal.NoPid) (cond (bad_pid (pid_test p)) (some refusal.BadPid) (cond (bad_input (wanted_as (λ (x : ℕ). x) f.input)) (some refusal.BadInput) none))
        ≡ some refusal.NoPid → p ≡ wanted_pid.Without
    go wanted_pid.Any e = absurd (bad false (bad_input (wanted_as (λ (x : ℕ). x) f.input)) e)
    go wanted_pid.Without e = refl
    go (wanted_pid.Exactly v) e = absurd (bad (bad_pid (exactly v)) (bad_input (wanted_as (λ (x : ℕ). x) f.input)) e)

-- the reading of a section's bytes says nothing of its PID
eit_says : (from : Origin) (bytes : Bytes) (h : Header) (r : Result eit_section_eit.Eit Refusal) → SaysNone (reads_eit from bytes h r) → ⊥
unfolding reads_eit
eit_says from bytes h (Err refusal.NotEit) e = e
eit_says from bytes h (Err r) e = let z : ◌≡◌ {A = ℕ} 0 1 = cc in omega arith
eit_says from bytes h (Ok f) e = e

read_says : (from : Origin) (bytes : Bytes) (c : Result Header Refusal) → SaysNone (reads_as from bytes c) → ⊥
unfolding reads_as
read_says from bytes (Err refusal.ShortForm) e = let z : ◌≡◌ {A = ℕ} 0 1 = cc in omega arith
read_says from bytes (Err r) e = let z : ◌≡◌ {A = ℕ} 0 1 = cc in omega arith
read_says from bytes (Ok h) e = eit_says from bytes h (eit_of bytes) e

reads_none : (i : Given) → SaysNone (reads i) → WithoutPid i
unfolding reads read_section
reads_none clears e = e
reads_none (drops f) e = asks_none f e
reads_none (section input None bytes) e = refl
reads_none (section input (Some p) bytes) e = absurd (pick (ltb p 8192) (ltb input 16) e)
  where
    pick : (b c : Bool) → SaysNone (cond b (cond c (reads_as (record { input = input; pid = p }) bytes (collected_of bytes)) (refuse refusal.BadInput refl)) (refuse refusal.BadPid refl)) → ⊥
    pick true true e = read_says (record { input = input; pid = p }) bytes (collected_of bytes) e
    pick true false e = let z : ◌≡◌ {A = ℕ} 0 1 = cc in omega arith
    pick false c e = let z : ◌≡◌ {A = ℕ} 0 1 = cc in omega arith

-- so 41 comes only from a call without one
pub only_without : (s : Store) → Reached s → (i : Given) → Fitting i → tells s i ≡ refused refusal.NoPid → WithoutPid i
only_without s z i o e = reads_none i (only_then_41 (seen s) (reads i) (sym (tells_seen s z i o) ∙ e))

-- and leaves memory and view as they were, on every store
pub no_pid_as_before : (s : Store) (i : Given) → tells s i ≡ refused refusal.NoPid → (acts s i ≡ s) × (seen (acts s i) ≡ seen s)
unfolding as_before refusals.as_before
no_pid_as_before s i e = let p = as_before_lem s i (ap as_before e) in (p, ap seen p)

-- ---- the rules without memory

opened_view : (s : Store) → Opened s → view (seen s) ≡ rules_opened
unfolding view on_eit on_order seen_as untouched
opened_view s o = rw (opened_seen s o)

unbarred : (as' : List Answer) → Never (refused refusal.NotWhole) as' → Never (refused refusal.CounterFull) as' → Never (refused refusal.NoCell) as' → (t : ℕ) (a : Answer) → At as' t a → barred a ≡ false
unfolding barred refusals.barred
unbarred as' w f n t done e = refl
unbarred as' w f n t nothing e = refl
unbarred as' w f n t (handout x) e = refl
unbarred as' w f n t (schedule g) e = refl
unbarred as' w f n t (refused refusal.NotWhole) e = absurd (w t e)
unbarred as' w f n t (refused refusal.CounterFull) e = absurd (f t e)
unbarred as' w f n t (refused refusal.BadPid) e = refl
unbarred as' w f n t (refused refusal.TooLittle) e = refl
unbarred as' w f n t (refused refusal.Malformed) e = refl
unbarred as' w f n t (refused refusal.ShortForm) e = refl
unbarred as' w f n t (refused refusal.BadNumber) e = refl
unbarred as' w f n t (refused refusal.BadCrc) e = refl
unbarred as' w f n t (refused refusal.NotEit) e = refl
unbarred as' w f n t (refused refusal.Broken) e = refl
unbarred as' w f n t (refused refusal.TooLong) e = refl
unbarred as' w f n t (refused refusal.NoCell) e = absurd (n t e)
unbarred as' w f n t (refused refusal.Conflict) e = refl
unbarred as' w f n t (refused refusal.Range) e = refl
unbarred as' w f n t (refused refusal.BadInput) e = refl
unbarred as' w f n t (refused refusal.NoPid) e = refl

-- from an opened store the answers are those of the rules without memory, as long as no count is at its end (11) and no cell is wanting (21)
pub history : (s : Store) → Opened s → (calls : List Given) → EachFitting calls → Never (refused refusal.CounterFull) (answers tells acts s calls) → Never (refused refusal.NoCell) (answers tells acts s calls)
    → answers tells acts s calls ≡ answers (rules_tell (settings_of s)) (rules_act (settings_of s)) rules_opened (map reads calls)
history s o calls b full cell =
    run_same barred (λ (q : Store). view (seen q)) Here tells acts (λ (d : Eit) (j : Given). rules_tell (settings_of s) d (reads j)) (λ (d : Eit) (j : Given). rules_act (settings_of s) d (reads j)) Fitting each
    calls b s (opened_reached s o, refl) (unbarred (answers tells acts s calls) (never_not_whole s o calls b) full cell)
    ∙ answers_read (rules_tell (settings_of s)) (rules_act (settings_of s)) reads (view (seen s)) calls
    ∙ ap (λ (d : Eit). answers (rules_tell (settings_of s)) (rules_act (settings_of s)) d (map reads calls)) (opened_view s o)
  where
    Here : Store → Type 0
    Here q = Reached q × (settings_of q ≡ settings_of s)

    each : (q : Store) (i : Given) → Fitting i → Here q
        → Obeys barred (λ (p : Store). view (seen p)) Here tells acts (λ (d : Eit) (j : Given). rules_tell (settings_of s) d (reads j)) (λ (d : Eit) (j : Given). rules_act (settings_of s) d (reads j)) q i
    each q i p h = go (obeys q h.0 i p)
      where
        go : Obeys barred (λ (p : Store). view (seen p)) Reached tells acts (λ (d : Eit) (j : Given). rules_tell (settings_of q) d (reads j)) (λ (d : Eit) (j : Given). rules_act (settings_of q) d (reads j)) q i
            → Obeys barred (λ (p : Store). view (seen p)) Here tells acts (λ (d : Eit) (j : Given). rules_tell (settings_of s) d (reads j)) (λ (d : Eit) (j : Given). rules_act (settings_of s) d (reads j)) q i
        go (bars e) = bars e
        go (does e v w) =
            does (e ∙ ap (λ (o : Settings). rules_tell o (view (seen q)) (reads i)) h.1) (v ∙ ap (λ (o : Settings). rules_act o (view (seen q)) (reads i)) h.1) (w, acts_settings q h.0 i p ∙ h.1)

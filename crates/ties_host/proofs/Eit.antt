-- What a call of the EIT collector writes into the words is what the next call reads, so the answers to every sequence of C calls are those of the
-- crate's calls, and from an opening on those of the rules.
-- Assumes nothing.
use Prim.Native.Nat.{ℕ}
use mathlib.Core.Path.{◌≡◌, refl, sym, ap, ◌∙◌}
use mathlib.Core.List.{List, [], ◌∷◌, map}
use mathlib.Core.Bool.{Bool, true, false, cond}
use native.Mathlib.Omega.{arith}
use lib.ListN.{length}
use lib.Dec.{eqb}
use Rattle.laws.specs.Runs.{answers, store_after, Never}
use Rattle.answers.specs.declared.Refusal.TheVariants as refusal
use Rattle.rules_eit.specs.Rules.{refused}
use Rattle.rules_eit.specs.Rules.{tells as rules_tell, acts as rules_act, opened as rules_opened}
use Rattle.rules_eit.specs.Cells.{call_tells, call_acts}
use Rattle.std.specs.Prelude.{Option, Result, Ok, Err}
use Rattle.answers.specs.declared.Refusal.{Refusal}
use Rattle.arrivals.specs.declared.Arrival.{Arrival}
use Rattle.rows.specs.Rows.{touched, kept_heads}
use Rattle.eit_pids.specs.Rows.{any_without}
use Rattle.eit_state.specs.State.{Store, store, rows, rows_of, risen_rows, asked, empty_eit, settings_fit, whole_of}
use Rattle.eit_state.specs.State.{Rows as EitRows}
use Rattle.eit_state.specs.declared.Eit.{Eit}
use Rattle.eit_plan.specs.Plan.{plan_of}
use Rattle.eit_plan.specs.declared.Plan.{Plan}
use Rattle.eit_plan.specs.declared.Plan.TheVariants as plan
use Rattle.eit_becomes.specs.declared.Becomes.{Becomes}
use Rattle.eit_becomes.specs.declared.Becomes.TheVariants as becomes
use Rattle.eit_becomes.specs.Becoming.{becomes_of, is_marked}
use Rattle.eit_enter.specs.Entering.{entered_in, entered}
use Rattle.eit_settle.specs.Settle.{marked_heads, settled_as, settled}
use Rattle.eit_carry.specs.Carried.{kept_and_settled, carried, pushed_whole}
use Rattle.eit_drop.specs.Drop.{matching_gone}
use Rattle.eit_drop.specs.declared.Filter.{Filter}
use Rattle.filter.specs.declared.Fields.{Fields}
use Rattle.eit_admit.specs.Admitting.{drop_of, admitted}
use Rattle.eit.specs.Store as eit
use Rattle.eit.specs.Store.{Told, number, After, after, opened_of, cleared_of, carried_drop, dropped_of, pushed_as, pushed_of}
use Rattle.ties_eit.specs.View.{seen, settings_of, reads, answer_told}
use Rattle.ties_eit.specs.View as ties
use Rattle.ties_eit.proofs.History.{EachFitting, opened_reached}
use Rattle.ties_eit.proofs.History as histories
use Rattle.host_words.specs.Inputs.{input_number}
use Rattle.host_words.specs.Pids.{maybe_pid}
use Rattle.host_eit_words.specs.Words.{eit_of, filter_of, words_of, words_after}
use Rattle.host_eit.specs.Calls.{eit_opened, eit_pushed, eit_cleared, eit_dropped}
use Rattle.ties_host.specs.Eit.{Lent, Call, push, clear, drop, tells, acts, store_in, call_of, answer_no, OpenedBy}
use Rattle.ties_host.proofs.Runs as runs

-- ---- no push, no clearing and no drop changes the settings, whatever the memory holds

-- the settings of one, the counts of the other
abbrev pub counted : Eit → Eit → Eit
counted e t = record {
  sets = record { limit = e.sets.limit; size = e.sets.size; count = e.sets.count; used = t.sets.used; evictions = t.sets.evictions; clock = t.sets.clock };
  schedules = t.schedules;
  schedule_evictions = t.schedule_evictions;
}

entered_counts : (r : EitRows) (a : Arrival) (i : ℕ) → (entered r a i).rows.eit ≡ counted r.eit (entered r a i).rows.eit
unfolding entered entered_in
entered_counts r a i = refl

settled_as_counts : (b : Becomes) (r : EitRows) (a : Arrival) (i : ℕ) → (settled_as b r a i).rows.eit ≡ counted r.eit (settled_as b r a i).rows.eit
settled_as_counts becomes.Stays r a i = refl
settled_as_counts becomes.GoesOut r a i = refl
settled_as_counts becomes.OutOfRange r a i = refl
settled_as_counts becomes.Enters r a i = entered_counts r a i

settled_counts : (r : EitRows) (a : Arrival) (i : ℕ) → (settled r a i).rows.eit ≡ counted r.eit (settled r a i).rows.eit
unfolding settled
settled_counts r a i =
    let heads : List ℕ = touched r.eit.sets.clock i r.heads in
    let b : Becomes = becomes_of heads r.slots a i in
    settled_as_counts b (rows r.eit (marked_heads (is_marked b) i heads) r.slots r.schedule_heads r.units) a i

carried_counts : (s : Store) (bytes : List ℕ) (p : Plan) → (carried s bytes p).store.eit ≡ counted s.eit (carried s bytes p).store.eit
unfolding kept_and_settled
carried_counts s bytes (plan.Leave a) = refl
carried_counts s bytes (plan.Conflict i) = refl
carried_counts s bytes (plan.Repeat x) = settled_counts (risen_rows (rows_of s)) x.arrival x.row
carried_counts s bytes (plan.Keep k) = settled_counts _ k.arrival k.room.row

arrived_counts : (s : Store) (bytes : List ℕ) (a : Result Arrival Refusal) → (pushed_as s bytes a).store.eit ≡ counted s.eit (pushed_as s bytes a).store.eit
unfolding pushed_whole
arrived_counts s bytes (Err r) = refl
arrived_counts s bytes (Ok a) = carried_counts s bytes (plan_of s bytes a)

pub pushed_counts : (s : Store) (input : ℕ) (pid : Option ℕ) (bytes : List ℕ) → (pushed_of s input pid bytes).store.eit ≡ counted s.eit (pushed_of s input pid bytes).store.eit
unfolding pushed_of
pushed_counts s input pid bytes = arrived_counts s bytes (admitted s input pid bytes)

-- ---- one call

-- what is written is what is read: after the call the words stand for the collector that the call of the crate left
pub reads_back : (l : Lent) (c : Call) → store_in (acts l c) ≡ (ties.called (store_in l) (call_of c)).store
unfolding acts eit_pushed eit_cleared eit_dropped cleared_of dropped_of matching_gone
reads_back l (push input pid section) =
    let a = (pushed_of (store_in l) (input_number input) (maybe_pid pid) section).store in
    ap (λ (e : Eit). store e a.heads a.slots a.cells a.schedule_heads a.units) (sym (pushed_counts (store_in l) (input_number input) (maybe_pid pid) section))
reads_back l clear = go (whole_of (store_in l)) (any_without (eit_of l.words) l.heads l.schedule_heads)
  where
    s : Store
    s = store_in l

    cleared : Bool → Bool → After
    cleared b n =
        cond b
        (cond n (after (eit.refused refusal.NoPid) s) (after eit.done (store (empty_eit s.eit) s.heads s.slots s.cells s.schedule_heads s.units)))
        (after (eit.refused refusal.NotWhole) s)

    go : (b n : Bool) → store (eit_of (words_after l.words (cleared b n).store.eit)) s.heads s.slots s.cells s.schedule_heads s.units ≡ (cleared b n).store
    go true true = refl
    go true false = refl
    go false n = refl
reads_back l (drop filter) = go (drop_of (store_in l) (filter_of filter))
  where
    s : Store
    s = store_in l

    go : (d : Result Fields Refusal) → (let a = (carried_drop s d).store in store (eit_of (words_after l.words a.eit)) a.heads a.slots s.cells a.schedule_heads a.units) ≡ (carried_drop s d).store
    go (Err r) = refl
    go (Ok f) = refl

told_number : (t : Told) → number t ≡ answer_no (answer_told t)
unfolding answer_told
told_number eit.done = refl
told_number eit.nothing = refl
told_number (eit.a_set x) = refl
told_number (eit.a_schedule x) = refl
told_number (eit.refused r) = refl

pub tells_as : (l : Lent) (c : Call) → tells l c ≡ answer_no (ties.tells (store_in l) (call_of c))
unfolding tells ties.tells eit_pushed eit_cleared eit_dropped
tells_as l (push input pid section) = told_number (pushed_of (store_in l) (input_number input) (maybe_pid pid) section).told
tells_as l clear = told_number (cleared_of (store_in l)).told
tells_as l (drop filter) = told_number (dropped_of (store_in l) (filter_of filter)).told

pub acts_as : (l : Lent) (c : Call) → store_in (acts l c) ≡ ties.acts (store_in l) (call_of c)
unfolding ties.acts
acts_as = reads_back

-- ---- every sequence of C calls, on any words and slices

pub same_answers : (calls : List Call) (l : Lent) → answers tells acts l calls ≡ map answer_no (answers ties.tells ties.acts (store_in l) (map call_of calls))
same_answers = runs.same_answers store_in call_of answer_no tells acts ties.tells ties.acts tells_as acts_as

pub same_store : (calls : List Call) (l : Lent) → store_in (store_after acts l calls) ≡ store_after ties.acts (store_in l) (map call_of calls)
same_store = runs.same_store store_in call_of answer_no tells acts ties.tells ties.acts tells_as acts_as

-- ---- from an opening on

-- where opening answers 7, the words stand for an opened collector
pub opened_by_lem : (l : Lent) → OpenedBy l → ties.Opened (store_in l)
unfolding eit_opened opened_of
opened_by_lem l o =
    go (settings_fit s (length l.heads) (length l.slots) (length l.cells) (length l.schedule_heads) (length l.units)) refl o.answer o.words
  where
    s : Eit
    s = asked o.limit o.size o.count

    go : (b : Bool) → settings_fit s (length l.heads) (length l.slots) (length l.cells) (length l.schedule_heads) (length l.units) ≡ b
        → number (cond b eit.done (eit.refused refusal.TooLittle)) ≡ 7
        → l.words ≡ cond (eqb (number (cond b eit.done (eit.refused refusal.TooLittle))) 7) (words_of s) o.before
        → ties.Opened (store_in l)
    go true e h w = record { opened = rw (w, e); sets = rw w; evictions = rw w; clock = rw w; schedules = rw w; schedule_evictions = rw w }
    go false e h w = absurd (omega arith)

-- the answers are those of the rules with cells
pub as_rules : (l : Lent) → OpenedBy l → (calls : List Call) → EachFitting (map call_of calls)
    → answers tells acts l calls ≡ map answer_no (answers call_tells call_acts (seen (store_in l)) (map reads (map call_of calls)))
as_rules l o calls b = same_answers calls l ∙ ap (map answer_no) (histories.same_answers (map call_of calls) b (store_in l) (opened_reached (store_in l) (opened_by_lem l o)))

-- and, as long as no count is at its end (11) and no cell is wanting (21), those of the rules without memory
pub history : (l : Lent) → OpenedBy l → (calls : List Call) → EachFitting (map call_of calls)
    → Never (refused refusal.CounterFull) (answers ties.tells ties.acts (store_in l) (map call_of calls))
    → Never (refused refusal.NoCell) (answers ties.tells ties.acts (store_in l) (map call_of calls))
    → answers tells acts l calls ≡ map answer_no (answers (rules_tell (settings_of (store_in l))) (rules_act (settings_of (store_in l))) rules_opened (map reads (map call_of calls)))
history l o calls b full cell = same_answers calls l ∙ ap (map answer_no) (histories.history (store_in l) (opened_by_lem l o) (map call_of calls) b full cell)

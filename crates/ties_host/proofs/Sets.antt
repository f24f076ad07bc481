-- What a call of the set collector writes into the words is what the next call reads, so the answers to every sequence of C calls are those of the
-- crate's calls, and from an opening on those of the rules.
-- Assumes nothing.
use Prim.Native.Nat.{ℕ}
use mathlib.Core.Path.{◌≡◌, refl, sym, ap, ◌∙◌}
use mathlib.Core.List.{List, [], ◌∷◌, map}
use mathlib.Core.Bool.{Bool, true, false, cond}
use native.Mathlib.Omega.{arith}
use lib.ListN.{length}
use lib.Dec.{eqb}
use Rattle.laws.specs.Runs.{answers, store_after}
use Rattle.answers.specs.declared.Refusal.TheVariants.{NotWhole, NoPid, TooLittle}
use Rattle.rules_sets.specs.Cells.{call_tells, call_acts}
use Rattle.without_pid.specs.Pids.{without_pid}
use Rattle.store.specs.Store.{Store, store, asked, empty_sets, settings_fit, whole_of}
use Rattle.store.specs.declared.Sets.{Sets}
use Rattle.std.specs.Prelude.{Option, Result, Ok, Err}
use Rattle.rows.specs.declared.Entry.{Entry}
use Rattle.answers.specs.declared.Refusal.{Refusal}
use Rattle.sets_plan.specs.Plan.{plan_of}
use Rattle.sets_plan.specs.declared.Plan.{Plan}
use Rattle.sets_plan.specs.declared.Plan.TheVariants as plan
use Rattle.sets_settle.specs.Settle as settle
use Rattle.sets_settle.specs.Settle.{Told, done, refused, told_no, after, settled, kept_in, carried}
use Rattle.sets_push.specs.Pushing.{whole_pushed, admitted}
use Rattle.sets.specs.Store.{opened_of, cleared_of, pushed_as, pushed_of}
use Rattle.sets.specs.History.{called}
use Rattle.ties_sets.specs.View.{seen, reads, answer_told}
use Rattle.ties_sets.specs.View as ties
use Rattle.ties_sets.proofs.History.{EachOfBytes, opened_reached}
use Rattle.ties_sets.proofs.History as histories
use Rattle.host_words.specs.Answers as words
use Rattle.host_words.specs.Inputs.{input_number}
use Rattle.host_words.specs.Pids.{maybe_pid}
use Rattle.host_sets_words.specs.Words.{sets_of, words_of, words_after}
use Rattle.host_sets.specs.Calls.{sets_opened, sets_pushed, sets_cleared}
use Rattle.ties_host.specs.Sets.{Lent, Call, push, clear, tells, acts, store_in, call_of, answer_no, OpenedBy}
use Rattle.ties_host.proofs.Runs as runs

-- ---- no push and no clearing changes the settings, whatever the memory holds

-- the settings of one, the counts of the other
abbrev pub counted : Sets → Sets → Sets
counted s t = record { limit = s.limit; size = s.size; count = s.count; used = t.used; evictions = t.evictions; clock = t.clock }

carried_counts : (s : Store) (bytes : List ℕ) (p : Plan) → (carried s bytes p).store.sets ≡ counted s.sets (carried s bytes p).store.sets
unfolding settled kept_in
carried_counts s bytes (plan.Refuse r) = refl
carried_counts s bytes plan.Silent = refl
carried_counts s bytes (plan.Conflict i) = refl
carried_counts s bytes (plan.Repeat i) = refl
carried_counts s bytes (plan.Keep k) = refl

arrived_counts : (s : Store) (bytes : List ℕ) (a : Result Entry Refusal) → (pushed_as s bytes a).store.sets ≡ counted s.sets (pushed_as s bytes a).store.sets
unfolding whole_pushed
arrived_counts s bytes (Err r) = refl
arrived_counts s bytes (Ok e) = carried_counts s bytes (plan_of s e bytes)

pub pushed_counts : (s : Store) (input : ℕ) (pid : Option ℕ) (bytes : List ℕ) → (pushed_of s input pid bytes).store.sets ≡ counted s.sets (pushed_of s input pid bytes).store.sets
unfolding pushed_of
pushed_counts s input pid bytes = arrived_counts s bytes (admitted s input pid bytes)

-- ---- one call

-- what is written is what is read: after the call the words stand for the collector that the call of the crate left
pub reads_back : (l : Lent) (c : Call) → store_in (acts l c) ≡ (called (store_in l) (call_of c)).store
unfolding acts sets_pushed sets_cleared cleared_of
reads_back l (push input pid section) =
    let a = (pushed_of (store_in l) (input_number input) (maybe_pid pid) section).store in
    ap (λ (s : Sets). store s a.heads a.slots a.cells) (sym (pushed_counts (store_in l) (input_number input) (maybe_pid pid) section))
reads_back l clear = go (whole_of (store_in l)) (without_pid l.heads (sets_of l.words).used)
  where
    s : Store
    s = store_in l

    cleared : Bool → Bool → settle.SetsAfter
    cleared b n = cond b (cond n (after (refused NoPid) s) (after done (store (empty_sets s.sets) s.heads s.slots s.cells))) (after (refused NotWhole) s)

    go : (b n : Bool) → store (sets_of (words_after l.words (cleared b n).store.sets)) s.heads s.slots s.cells ≡ (cleared b n).store
    go true true = refl
    go true false = refl
    go false n = refl

told_number : (t : Told) → told_no t ≡ answer_no (answer_told t)
unfolding answer_told
told_number done = refl
told_number settle.nothing = refl
told_number (settle.handed h) = refl
told_number (refused r) = refl

pub tells_as : (l : Lent) (c : Call) → tells l c ≡ answer_no (ties.tells (store_in l) (call_of c))
unfolding tells ties.tells sets_pushed sets_cleared
tells_as l (push input pid section) = told_number (pushed_of (store_in l) (input_number input) (maybe_pid pid) section).told
tells_as l clear = told_number (cleared_of (store_in l)).told

pub acts_as : (l : Lent) (c : Call) → store_in (acts l c) ≡ ties.acts (store_in l) (call_of c)
unfolding ties.acts
acts_as = reads_back

-- ---- every sequence of C calls, on any words and slices

pub same_answers : (calls : List Call) (l : Lent) → answers tells acts l calls ≡ map answer_no (answers ties.tells ties.acts (store_in l) (map call_of calls))
same_answers = runs.same_answers store_in call_of answer_no tells acts ties.tells ties.acts tells_as acts_as

pub same_store : (calls : List Call) (l : Lent) → store_in (store_after acts l calls) ≡ store_after ties.acts (store_in l) (map call_of calls)
same_store = runs.same_store store_in call_of answer_no tells acts ties.tells ties.acts tells_as acts_as

-- ---- from an opening on

-- where opening answers 7, the words stand for an opened collector
pub opened_by_lem : (l : Lent) → OpenedBy l → ties.Opened (store_in l)
unfolding sets_opened opened_of
opened_by_lem l o = go (settings_fit (asked o.limit o.size o.count) (length l.heads) (length l.slots) (length l.cells)) refl o.answer o.words
  where
    s : Sets
    s = asked o.limit o.size o.count

    go : (b : Bool) → settings_fit s (length l.heads) (length l.slots) (length l.cells) ≡ b
        → told_no (cond b done (refused TooLittle)) ≡ 7
        → l.words ≡ cond (eqb (told_no (cond b done (refused TooLittle))) 7) (words_of s) o.before
        → ties.Opened (store_in l)
    go true e h w = record { opened = record { opened = rw (w, e); none = rw w }; evictions = rw w; clock = rw w }
    go false e h w = absurd (omega arith)

-- the answers are those of the rules with cells; so without 11 and 21 those of the rules
pub as_rules : (l : Lent) → OpenedBy l → (calls : List Call) → EachOfBytes (map call_of calls)
    → answers tells acts l calls ≡ map answer_no (answers call_tells call_acts (seen (store_in l)) (map reads (map call_of calls)))
as_rules l o calls b = same_answers calls l ∙ ap (map answer_no) (histories.same_answers (map call_of calls) b (store_in l) (opened_reached (store_in l) (opened_by_lem l o)))

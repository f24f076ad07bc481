-- What holds of the rules after every history: no key stands twice, there are no more sets and no more schedules than the limit, a schedule has 16
-- places, and a marked set is complete.
-- Assumes nothing.
use mathlib.Core.Path.{◌≡◌, refl, sym, ap, ◌∙◌}
use mathlib.Core.Bool.{Bool, true, false, cond, true≢false}
use mathlib.Core.Option.{Option, none, some}
use Rattle.answers.specs.declared.Refusal.{Refusal}
use mathlib.Core.List.{List, []}
use Prim.Native.Nat.{ℕ, zero, suc, ◌-◌, ◌≤◌}
use native.Mathlib.Nat.{le_trans}
use native.Mathlib.Omega.{arith}
use lib.Dec.{leb, eqb}
use lib.ListN.{length, length-replicate, length-set}
use Rattle.rules_shared.specs.Touch.{Rows, find, untouched, emptied, retained}
use Rattle.rules_shared.specs.Row.{fresh, keep, marked, put}
use Rattle.rules_shared.specs.Cells.{Settings}
use Rattle.laws.specs.Runs.{store_after}
use Rattle.rules_shared.proofs.All.{All, all_aside, all_newest, all_touch, all_retain, all_find, length_aside, length_newest, length_touch, length_retain}
use Rattle.rules_shared.proofs.Distinct.{Distinct, distinct_aside, distinct_newest, distinct_touch, distinct_retain}
use Rattle.rules_shared.proofs.Row.{start_has, put_has}
use Rattle.laws.proofs.Runs.{after_all_lem}
use Rattle.rules_shared.specs.Same.{Bytes}
use Rattle.rules_eit.specs.Keys.{Kind, kind_of, first_of, ScheduleKey, SetKey, same_schedule, same_set, Filter, bad_filter}
use Rattle.rules_eit.specs.Segments.{complete}
use Rattle.rules_eit.specs.Schedules.{CopyOf, ScheduleOf, copy_of, refill, begin, enter}
use Rattle.rules_eit.specs.Rules.{SetRow, Eit, Section, key_of, part_of, Call, clear, drop, refuse, offer, met_row, set_aside, set_newest, schedule_touched, ranged, ready, judged, judge, cleared, dropped, finish, push, admit, offered, dropping, step, acts, opened}
use Rattle.rules_eit.proofs.Keys.{same_schedule_true, same_set_true}

abbrev pub MarkedComplete : SetKey → SetRow → Type 0
MarkedComplete k r = r.mark ≡ true → complete r ≡ true

abbrev pub SixteenPlaces : ScheduleKey → ScheduleOf Bytes → Type 0
SixteenPlaces l g = length g.copies ≡ 16

-- at most n sets, at most m schedules
pub record Lived (n m : ℕ) (e : Eit) : Type 0 where
  pub sets : Distinct same_set e.sets.rows
  pub few_sets : length e.sets.rows ≤ n
  pub marks : All MarkedComplete e.sets.rows
  pub schedules : Distinct same_schedule e.schedules.rows
  pub few_schedules : length e.schedules.rows ≤ m
  pub places : All SixteenPlaces e.schedules.rows

-- the same beside the touched key's row
record Beside (n m : ℕ) (k : SetKey) (e : Eit) : Type 0 where
  lived : Lived n m e
  lacks : find same_set k e.sets.rows ≡ none

-- ---- one row

met_marks : (x : Section) (k : SetKey) (e : Eit) → All MarkedComplete e.sets.rows → MarkedComplete k (met_row x k e)
unfolding met_row fresh
met_marks x k e a = start_has (part_of x) (MarkedComplete k) (λ h. absurd (true≢false (sym h))) (find same_set k e.sets.rows) (λ r h. all_find same_set MarkedComplete same_set_true k e.sets.rows r a h)

put_marks : (x : Section) (k : SetKey) (r r' : SetRow) → MarkedComplete k r → put (part_of x) x.bytes r ≡ some r' → MarkedComplete k r'
unfolding keep
put_marks x k r r' m h = put_has (part_of x) x.bytes r (MarkedComplete k) m (λ e. absurd (true≢false (sym e))) r' h

marked_marks : (k : SetKey) (r : SetRow) → complete r ≡ true → MarkedComplete k (marked r)
unfolding marked complete
marked_marks k r q h = q

refill_places : (others : Rows SetKey SetRow) (l : ScheduleKey) (last t n : ℕ) → length (refill others l last t n) ≡ n
unfolding refill
refill_places others l last t zero = refl
refill_places others l last t (suc n) = ap suc (refill_places others l last (suc t) n)

begin_places : (others : Rows SetKey SetRow) (l : ScheduleKey) (first last : ℕ) (o : Option (ScheduleOf Bytes)) → ((g : ScheduleOf Bytes) → o ≡ some g → SixteenPlaces l g)
    → SixteenPlaces l (begin others l first last o)
unfolding begin
begin_places others l first last none h = length-replicate {A = Option (CopyOf Bytes)} 16 none
begin_places others l first last (some g) h = go (eqb g.last_table last)
  where
    go : (b : Bool) → SixteenPlaces l (cond b g (record { last_table = last; copies = refill others l last first 16 }))
    go true = h g refl
    go false = refill_places others l last first 16

enter_places : (l : ScheduleKey) (n : ℕ) (c : CopyOf Bytes) (g : ScheduleOf Bytes) → SixteenPlaces l g → SixteenPlaces l (enter n c g)
unfolding enter
enter_places l n c g h = length-set g.copies n (some c) ∙ h

-- ---- the rows

aside_lived : (n m : ℕ) (k : SetKey) (e : Eit) → Lived (suc n) m e → Beside n m k (set_aside (suc n) k e)
unfolding set_aside
aside_lived n m k e h =
    let o = distinct_aside same_set same_set_true (suc n) k e.sets h.sets in
    record {
      lived = record {
        sets = o.0;
        few_sets = length_aside same_set n k e.sets h.few_sets;
        marks = all_aside same_set MarkedComplete (suc n) k e.sets h.marks;
        schedules = h.schedules;
        few_schedules = h.few_schedules;
        places = h.places;
      };
      lacks = o.1;
    }

newest_lived : (n m : ℕ) (k : SetKey) (r : SetRow) (e : Eit) → Beside n m k e → MarkedComplete k r → Lived (suc n) m (set_newest k r e)
unfolding set_newest
newest_lived n m k r e h t = record {
  sets = distinct_newest same_set same_set_true k r e.sets h.lived.sets h.lacks;
  few_sets = length_newest same_set n k r e.sets h.lived.few_sets;
  marks = all_newest same_set MarkedComplete k r e.sets h.lived.marks t;
  schedules = h.lived.schedules;
  few_schedules = h.lived.few_schedules;
  places = h.lived.places;
}

touched_lived : (n m : ℕ) (l : ScheduleKey) (g : ScheduleOf Bytes) (e : Eit) → Lived n (suc m) e → SixteenPlaces l g → Lived n (suc m) (schedule_touched (suc m) l g e)
unfolding schedule_touched
touched_lived n m l g e h t = record {
  sets = h.sets;
  few_sets = h.few_sets;
  marks = h.marks;
  schedules = distinct_touch same_schedule same_schedule_true (suc m) l g e.schedules h.schedules;
  few_schedules = length_touch same_schedule m l g e.schedules h.few_schedules;
  places = all_touch same_schedule SixteenPlaces (suc m) l g e.schedules h.places t;
}

judge_lived : (n : ℕ) (e : Eit) (k : SetKey) (last : ℕ) (r : SetRow) → Beside n (suc n) k e → MarkedComplete k r → Lived (suc n) (suc n) (judge (suc n) e k last r).eit
unfolding judge judged ready ranged
judge_lived n e k last r h m = go r.mark (complete r) refl
  where
    g : ℕ → ScheduleOf Bytes
    g first = enter (k.table_id_of - first) (copy_of r) (begin e.sets.rows k.schedule first last (find same_schedule k.schedule e.schedules.rows))

    g_places : (first : ℕ) → SixteenPlaces k.schedule (g first)
    g_places first =
        enter_places k.schedule (k.table_id_of - first) (copy_of r) _
        (begin_places e.sets.rows k.schedule first last (find same_schedule k.schedule e.schedules.rows)
        (λ q f. all_find same_schedule SixteenPlaces same_schedule_true k.schedule e.schedules.rows q h.lived.places f))

    in_range : complete r ≡ true → (first : ℕ) (b : Bool) → Lived (suc n) (suc n) (ranged (suc n) e k r first b (g first)).eit
    in_range q first false = newest_lived n (suc n) k r e h m
    in_range q first true = touched_lived (suc n) n k.schedule (g first) (set_newest k (marked r) e) (newest_lived n (suc n) k (marked r) e h (marked_marks k r q)) (g_places first)

    goes : complete r ≡ true → (o : Option ℕ) → Lived (suc n) (suc n) (ready (suc n) e k last r o).eit
    goes q none = newest_lived n (suc n) k (marked r) e h (marked_marks k r q)
    goes q (some first) = in_range q first (leb k.table_id_of last)

    go : (b c : Bool) → complete r ≡ c → Lived (suc n) (suc n) (judged (suc n) e k last r b c).eit
    go true c q = newest_lived n (suc n) k r e h m
    go false false q = newest_lived n (suc n) k r e h m
    go false true q = goes q (first_of k.schedule.kind)

push_lived : (limit : ℕ) (e : Eit) (x : Section) (k : SetKey) → Lived limit limit e → Lived limit limit (push limit e x k).eit
unfolding push finish
push_lived zero e x k h = h
push_lived (suc n) e x k h = go (put (part_of x) x.bytes (met_row x k e)) refl
  where
    m : MarkedComplete k (met_row x k e)
    m = met_marks x k e h.marks

    go : (o : Option SetRow) → put (part_of x) x.bytes (met_row x k e) ≡ o → Lived (suc n) (suc n) (finish (suc n) (set_aside (suc n) k e) k x.last_table (met_row x k e) o).eit
    go none q = newest_lived n (suc n) k (met_row x k e) (set_aside (suc n) k e) (aside_lived n (suc n) k e h) m
    go (some r) q = judge_lived n (set_aside (suc n) k e) k x.last_table r (aside_lived n (suc n) k e h) (put_marks x k (met_row x k e) r m q)

dropped_lived : (n m : ℕ) (f : Filter) (e : Eit) → Lived n m e → Lived n m (dropped f e)
unfolding dropped retained
dropped_lived n m f e h = record {
  sets = distinct_retain same_set _ e.sets.rows h.sets;
  few_sets = le_trans (length_retain _ e.sets.rows) h.few_sets;
  marks = all_retain same_set MarkedComplete _ e.sets.rows h.marks;
  schedules = distinct_retain same_schedule _ e.schedules.rows h.schedules;
  few_schedules = le_trans (length_retain _ e.schedules.rows) h.few_schedules;
  places = all_retain same_schedule SixteenPlaces _ e.schedules.rows h.places;
}

none_lived : (n m : ℕ) (a b : ℕ) → Lived n m (record { sets = record { rows = []; evicted = a }; schedules = record { rows = []; evicted = b } })
none_lived n m a b = record { sets = tt; few_sets = omega arith; marks = tt; schedules = tt; few_schedules = omega arith; places = tt }

pub step_lived : (o : Settings) (e : Eit) (i : Call) → Unit {0} → Lived o.limit o.limit e → Lived o.limit o.limit (acts o e i)
unfolding acts step cleared emptied dropping offered admit
step_lived o e clear u h = none_lived o.limit o.limit e.sets.evicted e.schedules.evicted
step_lived o e (drop f) u h = go (bad_filter f)
  where
    go : (b : Option Refusal) → Lived o.limit o.limit (dropping e f b).eit
    go (some r) = h
    go none = dropped_lived o.limit o.limit f e h
step_lived o e (refuse r b) u h = h
step_lived o e (offer x) u h = go (kind_of x.table_id_of)
  where
    short : (k : SetKey) (b : Bool) → Lived o.limit o.limit (admit o.limit e x k b).eit
    short k false = h
    short k true = push_lived o.limit e x k h

    go : (q : Option Kind) → Lived o.limit o.limit (offered o e x q).eit
    go none = h
    go (some kind) = short (key_of x kind) (leb (length x.bytes) o.cell_size)

pub in_every_history : (o : Settings) (calls : List Call) → Lived o.limit o.limit (store_after (acts o) opened calls)
unfolding untouched
in_every_history o calls = after_all_lem (acts o) (λ i. Unit {0}) (Lived o.limit o.limit) (step_lived o) calls (λ t i e. tt) opened (none_lived o.limit o.limit 0 0)

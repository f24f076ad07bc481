-- The third demand for present and following, of the EIT collector over lent memory.
-- Assumes nothing.
use borrow.Author.Tests.{le-leb}
use mathlib.Core.Path.{◌≡◌, refl, sym, ap, ◌∙◌, subst}
use mathlib.Core.Logic.{◌⊎◌, inl, inr}
use mathlib.Core.Bool.{Bool, true, true≢false}
use mathlib.Core.Option.{Option, none, some, some-injective}
use mathlib.Core.List.{List, [], ◌∷◌, map}
use Prim.Native.Nat.{ℕ, zero, suc, ◌≤◌}
use native.Mathlib.Omega.{arith}
use lib.ListN.{length}
use Rattle.laws.proofs.Tests.{none≢some}
use Rattle.rules_shared.specs.Row.{put}
use Rattle.rules_shared.specs.Cells.{Settings}
use Rattle.laws.specs.Runs.{answers, At, Never, GivenBy, Obeys, bars, does}
use Rattle.laws.proofs.Runs.{answers_read}
use Rattle.eit_section.specs.Segment.{segment_end as end_of_segment}
use Rattle.rules_eit.specs.Keys.{Kind, kind_of, SetKey}
use Rattle.rules_eit.specs.Segments.{segment_end}
use Rattle.rules_eit.specs.Rules.{Section, schedule_of, key_of, part_of, Call, clear, offer, SetRow, Eit, Whole, Answer, nothing, handout, schedule, refused, Step, met_row, set_aside, judge, finish, push, admit, offered, step, barred}
use Rattle.rules_eit.specs.Rules.{tells as rules_tell, acts as rules_act, opened as rules_opened}
use Rattle.answers.specs.declared.Refusal.{Refusal}
use Rattle.answers.specs.declared.Refusal.TheVariants as refusal
use Rattle.rules_eit.proofs.Judged.{Verdict, shown, incomplete, presents, outside, enters, schedules, verdict}
use Rattle.ties_eit.specs.View as ties
use Rattle.ties_eit.specs.View.{settings_of, seen, Reached}
use Rattle.rules_eit.specs.Cells.{Store as Shown, view, call_tells, call_acts}
use Rattle.rules_eit.proofs.Cells.{obeys_rules}
use Rattle.present.proofs.Five.{OfPresentFollowing, five_of_rules}
use Rattle.ties_eit.proofs.History as histories
use Rattle.ties_eit.proofs.History.{opened_reached}
use Rattle.promises.proofs.Demand3.{each_map}
use Rattle.present.specs.Demand.{run, Smaller, NoConflict}
use Rattle.present.specs.Demand as rules
use Rattle.present.proofs.Demand as of_rules
use Rattle.promises_eit.specs.PresentFollowing.{Collector, StartsEmpty, EqualCellSize, LimitNoLarger, Given, clears, made, reads, Calls, CallsFit, answers_of, RefusesNoneAsConflicting, RefusesNoneForItsStore, Accepted, OfOneSegment, SegmentsAgree, NoneAboveItsSegment, HandsOut, HandedOutSinceTheLastClear, PresentFollowing, PresentFollowingWithDrops, PresentFollowingOpened, FiveIsPresentFollowing}

-- ---- an EIT's section that is no longer than a cell is refused with 22 or 23 alone

abbrev Kept : Refusal → Type 0
Kept r = (r ≡ refusal.Range) ⊎ (r ≡ refusal.Conflict)

judged_kept : (limit : ℕ) (e : Eit) (k : SetKey) (last : ℕ) (r : SetRow) (n : Refusal) {t : Step} → Verdict limit e k last r t → t.answer ≡ refused n → Kept n
judged_kept limit e k last r n (shown m) h = let z : ◌≡◌ {A = ℕ} 0 1 = cc in absurd (omega arith)
judged_kept limit e k last r n (incomplete m c) h = let z : ◌≡◌ {A = ℕ} 0 1 = cc in absurd (omega arith)
judged_kept limit e k last r n (presents m c f) h = let z : ◌≡◌ {A = ℕ} 0 1 = cc in absurd (omega arith)
judged_kept limit e k last r n (outside first m c f l) h = let z : n ≡ refusal.Range = cc in inl z
judged_kept limit e k last r n (enters first m c f l a) h = let z : ◌≡◌ {A = ℕ} 0 1 = cc in absurd (omega arith)
judged_kept limit e k last r n (schedules first m c f l a) h = let z : ◌≡◌ {A = ℕ} 0 1 = cc in absurd (omega arith)

pushed_kept : (limit : ℕ) (e : Eit) (x : Section) (k : SetKey) (n : Refusal) → (push limit e x k).answer ≡ refused n → Kept n
unfolding push finish
pushed_kept zero e x k n h = let z : ◌≡◌ {A = ℕ} 0 1 = cc in absurd (omega arith)
pushed_kept (suc m) e x k n h = go (put (part_of x) x.bytes (met_row x k e)) h
  where
    go : (o : Option SetRow) → (finish (suc m) (set_aside (suc m) k e) k x.last_table (met_row x k e) o).answer ≡ refused n → Kept n
    go none q = let z : n ≡ refusal.Conflict = cc in inr z
    go (some r) q = judged_kept (suc m) (set_aside (suc m) k e) k x.last_table r n (verdict (suc m) (set_aside (suc m) k e) k x.last_table r) q

told_kept : (o : Settings) (e : Eit) (x : Section) (kind : Kind) (n : Refusal) → kind_of x.table_id_of ≡ some kind → length x.bytes ≤ o.cell_size → rules_tell o e (offer x) ≡ refused n → Kept n
unfolding rules_tell step offered admit
told_kept o e x kind n k s h =
    let b : admitted true ≡ (offered o e x (kind_of x.table_id_of)).answer = rw (k, le-leb (length x.bytes) o.cell_size s) refl in
    pushed_kept o.limit e x (key_of x kind) n (b ∙ h)
  where
    admitted : Bool → Answer
    admitted short = (admit o.limit e x (key_of x kind) short).answer

-- .. so anywhere in a run
run_kept : (o : Settings) (x : Section) (kind : Kind) (n : Refusal) → kind_of x.table_id_of ≡ some kind → length x.bytes ≤ o.cell_size
    → (calls : List Call) (e : Eit) (t : ℕ) → At calls t (offer x) → At (answers (rules_tell o) (rules_act o) e calls) t (refused n) → Kept n
unfolding answers
run_kept o x kind n k s [] e t p q = absurd (none≢some refl p)
run_kept o x kind n k s (i ∷ is) e zero p q =
    told_kept o e x kind n k s (subst (λ (j : Call). rules_tell o e j ≡ refused n) (some-injective i (offer x) p) (some-injective (rules_tell o e i) (refused n) q))
run_kept o x kind n k s (i ∷ is) e (suc t) p q = run_kept o x kind n k s is (rules_act o e i) t p q

-- ---- calls that are read

read_from : (calls : Calls) (t : ℕ) (i : Call) → At (map reads calls) t i → (j : Given) × At calls t j × (reads j ≡ i)
read_from [] t i e = absurd (none≢some refl e)
read_from (j ∷ js) zero i e = (j, refl, some-injective (reads j) i e)
read_from (j ∷ js) (suc t) i e = read_from js t i e

-- a clear is read as a clear
reads_clear : (calls : Calls) (t : ℕ) → At calls t clears → At (map reads calls) t clear
unfolding ties.reads
reads_clear [] t e = absurd (none≢some refl e)
reads_clear (i ∷ is) zero e = ap (λ (j : Given). some (reads j)) (some-injective i clears e)
reads_clear (i ∷ is) (suc t) e = reads_clear is t e

-- ---- the histories of these calls

made_read : (calls : Calls) → map ties.reads (map made calls) ≡ map reads calls
made_read [] = refl
made_read (i ∷ is) = ap (λ (l : List Call). reads i ∷ l) (made_read is)

module _ (calls : Calls) (fit : CallsFit calls) (s : Collector) where
  as_made : answers_of s calls ≡ answers ties.tells ties.acts s (map made calls)
  as_made = answers_read ties.tells ties.acts made s calls

  made_fit : histories.EachFitting (map made calls)
  made_fit = each_map ties.Fitting made calls fit

  -- the answers are those of the rules with cells
  pub same_answers : Reached s → answers_of s calls ≡ answers call_tells call_acts (seen s) (map reads calls)
  same_answers z = as_made ∙ histories.same_answers (map made calls) made_fit s z ∙ ap (answers call_tells call_acts (seen s)) (made_read calls)

  -- and, where no count is at its end and no cell is wanting, those of the rules
  by_rules_lem : StartsEmpty s → Never (refused refusal.CounterFull) (answers_of s calls) → Never (refused refusal.NoCell) (answers_of s calls) → answers_of s calls ≡ run (settings_of s) (map reads calls)
  by_rules_lem o nf nc =
      as_made ∙ histories.history s o (map made calls) made_fit (subst (Never (refused refusal.CounterFull)) as_made nf) (subst (Never (refused refusal.NoCell)) as_made nc)
      ∙ ap (run (settings_of s)) (made_read calls)

  never_not_whole : StartsEmpty s → Never (refused refusal.NotWhole) (answers_of s calls)
  never_not_whole o = subst (Never (refused refusal.NotWhole)) (sym as_made) (histories.never_not_whole s o (map made calls) made_fit)

module _ (larger : Collector) (calls : Calls) (q : answers_of larger calls ≡ run (settings_of larger) (map reads calls)) (nc : RefusesNoneAsConflicting larger calls) where
  -- what the rules accept, the larger accepts
  accepted : (x : Section) (kind : Kind) → rules.Accepted (settings_of larger) (map reads calls) x kind → Accepted larger calls x
  accepted x kind a =
      let j = read_from calls a.at (offer x) a.call in
      record {
        at = a.at;
        call = j.0;
        given = j.1;
        says = j.2;
        taken = λ r h. unconflicting r h (run_kept (settings_of larger) x kind r a.kinded a.short (map reads calls) rules_opened a.at a.call
            (subst (λ (as' : List Answer). At as' a.at (refused r)) q h));
      }
    where
      unconflicting : (r : Refusal) → At (answers_of larger calls) a.at (refused r) → Kept r → r ≡ refusal.Range
      unconflicting r h (inl e) = e
      unconflicting r h (inr e) = absurd (nc a.at (subst (λ (n : Refusal). At (answers_of larger calls) a.at (refused n)) e h))

  agree : SegmentsAgree larger calls → rules.SegmentsAgree (settings_of larger) (map reads calls)
  unfolding key_of schedule_of
  agree f x y k j a b e v l s = f x y (accepted x k a) (accepted y j b) (record {
    from = ap (λ (w : SetKey). w.schedule.from) e;
    table_id = ap (λ (w : SetKey). w.table_id_of) e;
    service_id_lem = ap (λ (w : SetKey). w.schedule.service_id) e;
    transport_stream_id_lem = ap (λ (w : SetKey). w.schedule.transport_stream_id) e;
    original_network_id_lem = ap (λ (w : SetKey). w.schedule.original_network_id) e;
    current_next = ap (λ (w : SetKey). w.schedule.current_next_of) e;
    version = v;
    last_section_number_lem = l;
    segment = s;
  })

  inside : NoneAboveItsSegment larger calls → rules.InsideSegments (settings_of larger) (map reads calls)
  unfolding segment_end end_of_segment
  inside f x k a = f x (accepted x k a)

pub present_following_with_drops : PresentFollowingWithDrops
present_following_with_drops smaller larger os ol size limit calls fit nc ns nl sa na t set h =
    let p = by_rules_lem calls fit smaller os ns.counter ns.cells in
    let q = by_rules_lem calls fit larger ol nl.counter nl.cells in
    let le : Smaller (settings_of smaller) (settings_of larger) = record { same_cells = size; no_larger = limit } in
    let g : GivenBy clear handout (run (settings_of larger) (map reads calls)) (map reads calls) t set =
    of_rules.present_following (settings_of smaller) (settings_of larger) le (map reads calls) (subst NoConflict q nc) (agree larger calls q nc sa) (inside larger calls q nc na) t set
    (subst (λ (as' : List Answer). At as' t (handout set)) p h) in
    record {
      at = g.at;
      early = g.early;
      given = subst (λ (as' : List Answer). At as' g.at (handout set)) (sym q) g.given;
      since = λ u l m e. g.since u l m (reads_clear calls u e);
    }

pub present_following : PresentFollowing
present_following smaller larger os ol size limit calls fit nc ns nl nd sa na = present_following_with_drops smaller larger os ol size limit calls fit nc ns nl sa na

-- ---- "a store not whole" need not be asked: in no history 10 occurs

pub present_following_opened : PresentFollowingOpened
present_following_opened smaller larger os ol size limit calls fit nc ns nl =
    present_following_with_drops smaller larger os ol size limit calls fit nc
    (record { cells = ns.0; counter = ns.1; wholeness = never_not_whole calls fit smaller os })
    (record { cells = nl.0; counter = nl.1; wholeness = never_not_whole calls fit larger ol })

-- ---- answer 5 comes with present/following sets alone, whatever else was answered

told_five : (s : Shown) (i : Call) (w : Whole) → call_tells s i ≡ handout w → OfPresentFollowing w
unfolding barred
told_five s i w h = go (obeys_rules s i)
  where
    go : Obeys barred view (λ q. Unit {0}) call_tells call_acts (rules_tell s.settings) (rules_act s.settings) s i → OfPresentFollowing w
    go (bars e) = absurd (true≢false (sym e ∙ ap barred h))
    go (does e v u) = five_of_rules s.settings (view s) i w (sym e ∙ h)

all_five : (calls : List Call) (s : Shown) (t : ℕ) (w : Whole) → At (answers call_tells call_acts s calls) t (handout w) → OfPresentFollowing w
unfolding answers
all_five [] s t w e = absurd (none≢some refl e)
all_five (i ∷ is) s zero w e = told_five s i w (some-injective (call_tells s i) (handout w) e)
all_five (i ∷ is) s (suc t) w e = all_five is (call_acts s i) t w e

pub five_is_present_following : FiveIsPresentFollowing
five_is_present_following s o calls fit t set h =
    all_five (map reads calls) (seen s) t set (subst (λ (as' : List Answer). At as' t (handout set)) (same_answers calls fit s (opened_reached s o)) h)

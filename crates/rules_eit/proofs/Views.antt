-- What the EIT collector does, does not depend on what a slot holds: it is the same before and after everything held is seen otherwise (f).
-- And a free cell written changes nothing that is shown.
-- Assumes nothing.
use mathlib.Core.Path.{◌≡◌, refl, sym, ap, ◌∙◌}
use mathlib.Core.Bool.{Bool, true, false, cond, not}
use mathlib.Core.Option
use mathlib.Core.Option.{Option, none, some}
use mathlib.Core.List.{List, [], ◌∷◌, map}
use Prim.Native.Nat.{ℕ, zero, suc, ◌*◌, ◌-◌}
use lib.Dec.{leb, eqb}
use lib.ListN.{get_or, take}
use Rattle.laws.proofs.Tests.{or_false}
use Rattle.rules_shared.specs.Same.{Bytes}
use Rattle.rules_shared.specs.Slots.{on_slots}
use Rattle.rules_shared.specs.Touch.{Rows, some_row, seen_as, find, newest, on_order}
use Rattle.rules_shared.specs.Row.{marked, on_row}
use Rattle.rules_shared.specs.Cells.{Held, Cells, bytes_of, names, write}
use Rattle.rules_shared.proofs.Slots.{on_empty, on_get_d, on_set, on_take, on_present, on_held, on_alike}
use Rattle.rules_shared.proofs.Views.{seen_find, aside_on, newest_on, touch_on, retained_on, order_alike, some_newest}
use Rattle.rules_shared.proofs.Row.{start_on}
use Rattle.rules_shared.proofs.Cells.{row_unseen, elsewhere}
use Rattle.rules_eit.specs.Keys.{first_of, ScheduleKey, SetKey, same_schedule, same_set, Filter, matches}
use Rattle.rules_eit.specs.Segments.{segment_of, segment_end, SegmentLasts, SetOf, held_from, segment_full, segments_full, complete}
use Rattle.rules_eit.specs.Schedules.{CopyOf, ScheduleOf, table_of, copy_of, whole, copied, refill, begin, enter, all_tables, wholes, guide}
use Rattle.rules_eit.specs.Rules.{EitOf, Section, part_of, AnswerOf, handout, schedule, StepOf, gives, met_row, set_aside, set_newest, schedule_touched, told, ranged, ready, judged, judge, dropped}
use Rattle.rules_eit.specs.Cells.{on_copy, on_schedule, on_eit, on_whole, on_guide, on_answer, set_takes, copy_takes, schedule_takes, taken}

-- ---- completeness

held_on : {A B : Type 0} (f : A → B) (ss : List (Option A)) (a n : ℕ) → held_from (on_slots f ss) a n ≡ held_from ss a n
unfolding held_from
held_on f ss a zero = refl
held_on f ss a (suc n) = rw (on_get_d f ss a, on_held f (get_or ss a none), held_on f ss (suc a) n) refl

module _ {A B : Type 0} (f : A → B) where
  full_on : (last : ℕ) (ss : List (Option A)) (from : ℕ) (o : Option ℕ) → segment_full last (on_slots f ss) from o ≡ segment_full last ss from o
  unfolding segment_full
  full_on last ss from none = refl
  full_on last ss from (some n) = held_on f ss from (suc (segment_end from n last) - from)

  fulls_on : (last : ℕ) (ss : List (Option A)) (gs : SegmentLasts) (g n : ℕ) → segments_full last (on_slots f ss) gs g n ≡ segments_full last ss gs g n
  unfolding segments_full
  fulls_on last ss gs g zero = refl
  fulls_on last ss gs g (suc n) = rw (full_on last ss (8 * g) (get_or gs g none), fulls_on last ss gs (suc g) n) refl

  complete_on : (r : SetOf A) → complete (on_row f r) ≡ complete r
  unfolding complete on_row
  complete_on r = fulls_on r.last r.slots r.notes 0 (suc (segment_of r.last))

  -- ---- one schedule

  whole_on : (k : SetKey) (c : CopyOf A) → whole k (on_copy f c) ≡ on_whole f (whole k c)
  unfolding whole on_copy on_whole
  whole_on k c = let e = on_present f c.slots in λ i. record { key = k; version = c.version; last = c.last; sections = e i }

  copied_on : (o : Option (SetOf A)) → copied (Option.map (on_row f) o) ≡ Option.map (on_copy f) (copied o)
  unfolding copied on_row on_copy copy_of
  copied_on none = refl
  copied_on (some r) = rw (complete_on r) (go (complete r))
    where
      go : (b : Bool) → cond b (some (copy_of (on_row f r))) none ≡ Option.map (on_copy f) (cond b (some (copy_of r)) none)
      go true = refl
      go false = refl

  refill_on : (others : Rows SetKey (SetOf A)) (l : ScheduleKey) (last t n : ℕ) → refill (seen_as (on_row f) others) l last t n ≡ on_slots (on_copy f) (refill others l last t n)
  unfolding refill on_slots
  refill_on others l last t zero = refl
  refill_on others l last t (suc n) =
      let k : SetKey = table_of l t in
      let e = go (leb t last) _ (copied (find same_set k others)) (ap copied (seen_find (on_row f) same_set k others) ∙ copied_on (find same_set k others)) in
      let q = refill_on others l last (suc t) n in
      λ i. e i ∷ q i
    where
      go : (b : Bool) (o : Option (CopyOf B)) (o' : Option (CopyOf A)) → o ≡ Option.map (on_copy f) o' → cond b o none ≡ Option.map (on_copy f) (cond b o' none)
      go true o o' e = e
      go false o o' e = refl

  begin_on : (others : Rows SetKey (SetOf A)) (l : ScheduleKey) (first last : ℕ) (o : Option (ScheduleOf A))
      → begin (seen_as (on_row f) others) l first last (Option.map (on_schedule f) o) ≡ on_schedule f (begin others l first last o)
  unfolding begin on_schedule
  begin_on others l first last none = let e = sym (on_empty (on_copy f) 16) in λ i. record { last_table = last; copies = e i }
  begin_on others l first last (some s) = go (eqb s.last_table last)
    where
      go : (b : Bool) → cond b (on_schedule f s) (record { last_table = last; copies = refill (seen_as (on_row f) others) l last first 16 })
          ≡ on_schedule f (cond b s (record { last_table = last; copies = refill others l last first 16 }))
      go true = refl
      go false = let e = refill_on others l last first 16 in λ i. record { last_table = last; copies = e i }

  enter_on : (n : ℕ) (c : CopyOf A) (s : ScheduleOf A) → enter n (on_copy f c) (on_schedule f s) ≡ on_schedule f (enter n c s)
  unfolding enter on_schedule
  enter_on n c s = let e = sym (on_set (on_copy f) s.copies n c) in λ i. record { last_table = s.last_table; copies = e i }

  wholes_on : (l : ScheduleKey) (t : ℕ) (cs : List (Option (CopyOf A))) → wholes l t (on_slots (on_copy f) cs) ≡ map (on_whole f) (wholes l t cs)
  unfolding wholes on_slots
  wholes_on l t [] = refl
  wholes_on l t (none ∷ cs) = wholes_on l (suc t) cs
  wholes_on l t (some c ∷ cs) =
      let e = whole_on (table_of l t) c in
      let q = wholes_on l (suc t) cs in
      λ i. e i ∷ q i

  told_on : (l : ScheduleKey) (first : ℕ) (s : ScheduleOf A) (b : Bool) → told l first (on_schedule f s) b ≡ on_answer f (told l first s b)
  unfolding told guide on_guide on_schedule on_answer
  told_on l first s false = refl
  told_on l first s true =
      let n = suc (s.last_table - first) in
      let e = ap (wholes l first) (on_take (on_copy f) n s.copies) ∙ wholes_on l first (take n s.copies) in
      λ i. schedule (record { key = l; last_table = s.last_table; tables = e i })

  all_on : (first : ℕ) (s : ScheduleOf A) → all_tables first (on_schedule f s) ≡ all_tables first s
  unfolding all_tables on_schedule
  all_on first s = held_on (on_copy f) s.copies 0 (suc (s.last_table - first))

  -- ---- the rows

  pub met_on : (x : Section) (k : SetKey) (e : EitOf A) → met_row x k (on_eit f e) ≡ on_row f (met_row x k e)
  unfolding met_row on_eit on_order
  met_on x k e = rw (seen_find (on_row f) same_set k e.sets.rows) (start_on f (part_of x) (find same_set k e.sets.rows))

  pub set_aside_on : (limit : ℕ) (k : SetKey) (e : EitOf A) → set_aside limit k (on_eit f e) ≡ on_eit f (set_aside limit k e)
  unfolding set_aside on_eit
  set_aside_on limit k e = let p = aside_on (on_row f) same_set limit k e.sets in λ i. record { sets = p i; schedules = on_order (on_schedule f) e.schedules }

  pub set_newest_on : (k : SetKey) (r : SetOf A) (e : EitOf A) → set_newest k (on_row f r) (on_eit f e) ≡ on_eit f (set_newest k r e)
  unfolding set_newest on_eit
  set_newest_on k r e = let p = newest_on (on_row f) k r e.sets in λ i. record { sets = p i; schedules = on_order (on_schedule f) e.schedules }

  touched_on : (limit : ℕ) (l : ScheduleKey) (s : ScheduleOf A) (e : EitOf A) → schedule_touched limit l (on_schedule f s) (on_eit f e) ≡ on_eit f (schedule_touched limit l s e)
  unfolding schedule_touched on_eit
  touched_on limit l s e = let p = touch_on (on_schedule f) same_schedule limit l s e.schedules in λ i. record { sets = on_order (on_row f) e.sets; schedules = p i }

  pub dropped_on : (g : Filter) (e : EitOf A) → dropped g (on_eit f e) ≡ on_eit f (dropped g e)
  unfolding dropped on_eit
  dropped_on g e =
      let p = retained_on (on_row f) (λ k. not (matches g k.schedule)) e.sets in
      let q = retained_on (on_schedule f) (λ l. not (matches g l)) e.schedules in
      λ i. record { sets = p i; schedules = q i }

  -- ---- a row is judged

  abbrev pub on_step : StepOf A → StepOf B
  on_step t = gives (on_answer f t.answer) (on_eit f t.eit)

  both : {a a' : AnswerOf B} {e e' : EitOf B} → a ≡ a' → e ≡ e' → gives a e ≡ gives a' e'
  both p q = λ i. gives (p i) (q i)

  ranged_on : (limit : ℕ) (e : EitOf A) (k : SetKey) (r : SetOf A) (first : ℕ) (b : Bool) (s : ScheduleOf A)
      → ranged limit (on_eit f e) k (on_row f r) first b (on_schedule f s) ≡ on_step (ranged limit e k r first b s)
  unfolding ranged on_answer marked on_row
  ranged_on limit e k r first false s = both refl (set_newest_on k r e)
  ranged_on limit e k r first true s =
      both (ap (told k.schedule first (on_schedule f s)) (all_on first s) ∙ told_on k.schedule first s (all_tables first s))
      (ap (schedule_touched limit k.schedule (on_schedule f s)) (set_newest_on k (marked r) e) ∙ touched_on limit k.schedule s (set_newest k (marked r) e))

  ready_on : (limit : ℕ) (e : EitOf A) (k : SetKey) (last : ℕ) (r : SetOf A) (o : Option ℕ) → ready limit (on_eit f e) k last (on_row f r) o ≡ on_step (ready limit e k last r o)
  unfolding ready on_answer marked on_row on_copy copy_of on_eit on_order
  ready_on limit e k last r none = both (ap handout (whole_on k (copy_of r))) (set_newest_on k (marked r) e)
  ready_on limit e k last r (some first) =
      let o = find same_schedule k.schedule e.schedules.rows in
      let p : find same_schedule k.schedule (seen_as (on_schedule f) e.schedules.rows) ≡ Option.map (on_schedule f) o = seen_find (on_schedule f) same_schedule k.schedule e.schedules.rows in
      let q = ap (begin (seen_as (on_row f) e.sets.rows) k.schedule first last) p ∙ begin_on e.sets.rows k.schedule first last o in
      let t = ap (enter (k.table_id_of - first) (on_copy f (copy_of r))) q ∙ enter_on (k.table_id_of - first) (copy_of r) (begin e.sets.rows k.schedule first last o) in
      ap (ranged limit (on_eit f e) k (on_row f r) first (leb k.table_id_of last)) t
      ∙ ranged_on limit e k r first (leb k.table_id_of last) (enter (k.table_id_of - first) (copy_of r) (begin e.sets.rows k.schedule first last o))

  judged_on : (limit : ℕ) (e : EitOf A) (k : SetKey) (last : ℕ) (r : SetOf A) (b c : Bool) → judged limit (on_eit f e) k last (on_row f r) b c ≡ on_step (judged limit e k last r b c)
  unfolding judged on_answer
  judged_on limit e k last r true c = both refl (set_newest_on k r e)
  judged_on limit e k last r false false = both refl (set_newest_on k r e)
  judged_on limit e k last r false true = ready_on limit e k last r (first_of k.schedule.kind)

  pub judge_on : (limit : ℕ) (e : EitOf A) (k : SetKey) (last : ℕ) (r : SetOf A) → judge limit (on_eit f e) k last (on_row f r) ≡ on_step (judge limit e k last r)
  unfolding judge on_row
  judge_on limit e k last r =
      ap (judged limit (on_eit f e) k last (on_row f r) r.mark) (complete_on r) ∙ judged_on limit e k last r r.mark (complete r)

-- ---- a free cell is written

module _ (cells : Cells) (c : ℕ) (bytes : Bytes) where
  copy_unseen : (o : CopyOf Held) → copy_takes c o ≡ false → on_copy (bytes_of (write cells c bytes)) o ≡ on_copy (bytes_of cells) o
  unfolding on_copy copy_takes
  copy_unseen o h =
      let e = on_alike (bytes_of (write cells c bytes)) (bytes_of cells) (names c) (elsewhere cells c bytes) o.slots h in
      λ i. record { version = o.version; last = o.last; slots = e i }

  schedule_unseen : (s : ScheduleOf Held) → schedule_takes c s ≡ false → on_schedule (bytes_of (write cells c bytes)) s ≡ on_schedule (bytes_of cells) s
  unfolding on_schedule schedule_takes
  schedule_unseen s h =
      let e = on_alike (on_copy (bytes_of (write cells c bytes))) (on_copy (bytes_of cells)) (copy_takes c) copy_unseen s.copies h in
      λ i. record { last_table = s.last_table; copies = e i }

  pub free_cell_unseen : (e : EitOf Held) → taken e c ≡ false → on_eit (bytes_of (write cells c bytes)) e ≡ on_eit (bytes_of cells) e
  unfolding on_eit taken set_takes
  free_cell_unseen e h =
      let p = or_false (some_row (set_takes c) e.sets.rows) (some_row (schedule_takes c) e.schedules.rows) h in
      let q = order_alike (on_row (bytes_of (write cells c bytes))) (on_row (bytes_of cells)) (set_takes c) (row_unseen cells c bytes) e.sets p.0 in
      let r = order_alike (on_schedule (bytes_of (write cells c bytes))) (on_schedule (bytes_of cells)) (schedule_takes c) schedule_unseen e.schedules p.1 in
      λ i. record { sets = q i; schedules = r i }

-- a cell that is free beside a newest set is free in the other rows, and in that set
pub free_parts : (c : ℕ) (k : SetKey) (r : SetOf Held) (e : EitOf Held) → taken (set_newest k r e) c ≡ false → (taken e c ≡ false) × (set_takes c r ≡ false)
unfolding taken set_newest
free_parts c k r e h =
    let p = or_false (some_row (set_takes c) (newest k r e.sets).rows) (some_row (schedule_takes c) e.schedules.rows) h in
    let q = some_newest (set_takes c) k r e.sets p.0 in
    (rw q.0 p.1, q.1)

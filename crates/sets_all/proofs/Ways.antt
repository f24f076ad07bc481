-- A push into a store that is known to be whole and to have PIDs alone, and one after another over a list: one law for each way out.
-- Assumes nothing.
use mathlib.Core.Path.{◌≡◌, refl, sym, subst, ◌∙◌}
use mathlib.Core.List.{List}
use mathlib.Core.Bool.{Bool, true, false, cond}
use Prim.Native.Nat.{ℕ, ◌+◌, ◌-◌, ◌≤◌, ◌<◌}
use native.Mathlib.Omega.{arith}
use borrow.Author.Tests.{eq-eqb, ne_eqb, ltb-false}
use lib.Dec.{eqb}
use lib.ListN.{length, get_or, take, drop, length-drop}
use lib.Seq.{length-take-le}
use Rattle.answers.specs.Answers.{refusal_no}
use Rattle.answers.proofs.Laws.{refused_from_10}
use Rattle.answers.specs.declared.Refusal.{Refusal}
use Rattle.answers.specs.declared.Refusal.TheVariants.{NotWhole, CounterFull, NoPid}
use Rattle.std.specs.Prelude.{Option, Some, Result, Ok, Err}
use Rattle.rows.specs.declared.Entry.{Entry}
use Rattle.without_pid.specs.Pids.{without_pid}
use Rattle.store.specs.Store.{Store, store, whole_of, counters_full}
use Rattle.store.specs.declared.Sets.{Sets}
use Rattle.store.proofs.Whole.{means_whole, is_whole_means, evictions_go_on, clock_goes_on}
use Rattle.arrivals.specs.Arrivals.{set_arrival, SetTaken, Taken}
use Rattle.sets_plan.specs.Plan.{Ready}
use Rattle.sets_repeats.specs.Repeats.{Passed, start, next}
use Rattle.sets_settle.specs.Settle.{nothing, refused, SetsAfter, after, after_push, answer_of, push_no}
use Rattle.sets_settle.specs.declared.PushAnswer.{PushAnswer}
use Rattle.sets_settle.specs.declared.PushAnswer.TheVariants as push_answer
use Rattle.sets_push.specs.Pushing.{whole_pushed}
use Rattle.sets_push.proofs.Ways.{admit_full, admit_section}
use Rattle.sets.specs.Store.{pushed_of}
use Rattle.sets.proofs.Admit.{pushed_refused, pushed_arrived}
use Rattle.sets.proofs.Stays.{push_stays}
use Rattle.sets.proofs.Pids.{has_pids, none_without, push_pids}
use Rattle.rules_logs.specs.Records.{Bytes}
use Rattle.rules_logs.specs.Sections.{Given, Listed, too_long, cut, sections, sections_in}
use Rattle.log_list.specs.List.{judged_of, givens_of, givens_from, given_at, WholeFrom, PlacedAt}
use Rattle.log_list.specs.declared.Place.{Place}
use Rattle.std.specs.Prelude.{Result, Ok, Err}
use Rattle.log_list.specs.declared.ListError.{ListError}
use Rattle.log_list.specs.declared.ListError.TheVariants as error
use Rattle.log_list.proofs.Laws.{none_left, from_start}
use Rattle.sets_all.specs.declared.AllAnswer.TheVariants as answer
use Rattle.sets_all.specs.declared.AllPushed.{AllPushed}
use Rattle.sets_all.specs.All.{of, overlong, AllAfter, all_after, after_all, is_nothing, pushed_given, pushed_each, pushed_sections, Pushable, pushed_list, pushed_all}

-- ---- one push

module _ (sets : Sets) (heads slots cells : List ℕ) (w : Pushable sets heads slots cells) (input : ℕ) (pid : Option ℕ) (bytes : List ℕ) where
  abbrev here : Store
  here = store sets heads slots cells

  whole : true ≡ whole_of here
  whole = sym (means_whole here w.whole)

  -- it stays so, by the equation
  pub ready_stays : get_or bytes 7 0 < 256 → (k : SetsAfter) → k ≡ pushed_of here input pid bytes → Pushable k.store.sets k.store.heads k.store.slots k.store.cells
  ready_stays b k e =
      subst (λ (x : SetsAfter). Pushable x.store.sets x.store.heads x.store.slots x.store.cells) (sym e)
      (record {
        whole = push_stays here input pid bytes b w.whole;
        pids = none_without (pushed_of here input pid bytes).store (push_pids here input pid bytes b (has_pids here w.pids));
      })

  module _ (full : Bool) (g : full ≡ counters_full sets) where
    pub ready_full : full ≡ true → after_push (record { answer = push_answer.Refused CounterFull; sets = sets }) heads slots cells ≡ pushed_of here input pid bytes
    ready_full h = pushed_refused here input pid bytes (Err CounterFull) (admit_full here input pid bytes true whole full g refl h) CounterFull refl

    pub ready_refused : (a : Result Entry Refusal) → full ≡ false → a ≡ set_arrival input pid bytes → (r : Refusal) → a ≡ Err r
        → after_push (record { answer = push_answer.Refused r; sets = sets }) heads slots cells ≡ pushed_of here input pid bytes
    ready_refused a ne e r q = pushed_refused here input pid bytes a (admit_section here input pid bytes true whole full g refl false a ne (sym w.pids) refl e) r q

    pub ready_arrived : (a : Result Entry Refusal) → full ≡ false → a ≡ set_arrival input pid bytes → (x : Entry) → a ≡ Ok x → (k : SetsAfter) → k ≡ whole_pushed here x bytes → k ≡ pushed_of here input pid bytes
    ready_arrived a ne e x q k f = pushed_arrived here input pid bytes a (admit_section here input pid bytes true whole full g refl false a ne (sym w.pids) refl e) x k q f

    pub ready_may : (a : Result Entry Refusal) → full ≡ false → SetTaken bytes a → (x : Entry) → a ≡ Ok x → Ready here × Taken bytes x
    ready_may a ne t x q = (record { whole = w.whole; counts = evictions_go_on sets full g ne; runs = clock_goes_on sets full g ne }, subst (SetTaken bytes) q t)

-- ---- one after another

-- 4 is told of nothing to hand out alone
four_answer : (a : PushAnswer) (s : Store) → is_nothing (answer_of a s) ≡ eqb (push_no a) 4
four_answer push_answer.Nothing s = refl
four_answer (push_answer.Set i) s = refl
four_answer (push_answer.Refused r) s = let h : 10 ≤ refusal_no r = ltb-false (refusal_no r) 10 (refused_from_10 r) in sym (ne_eqb (refusal_no r) 4 (λ e. omega (arith, h, e)))

pub goes_on_lem : (a : PushAnswer) (s : Store) (m : ℕ) → m ≡ push_no a → m ≡ 4 → is_nothing (answer_of a s) ≡ true
goes_on_lem a s m e z = four_answer a s ∙ eq-eqb (push_no a) 4 (sym e ∙ z)

pub stops : (a : PushAnswer) (s : Store) (m : ℕ) → m ≡ push_no a → (m ≡ 4 → ⊥) → is_nothing (answer_of a s) ≡ false
stops a s m e z = four_answer a s ∙ ne_eqb (push_no a) 4 (λ q. z (e ∙ q))

module _ (list : Bytes) (p : ℕ) (s : Store) where
  pub each_end : length list ≤ p → pushed_each p s (givens_from list p) ≡ all_after (of nothing) s p
  unfolding pushed_each
  each_end h = rw (none_left list p h)

  module _ (r : Place) (o : PlacedAt list p r) (l : SetsAfter) (q : l ≡ pushed_given s (given_at list r)) where
    size : length (given_at list r).section ≡ r.length
    size = length-take-le r.length (drop r.start list) (let w = o.behind.within in rw length-drop (omega (arith, w)))

    past : p + (5 + length (given_at list r).section) ≡ r.start + r.length
    past = let e = o.starts in rw size (omega (arith, e))

    first : pushed_each p s (givens_from list p) ≡ cond (is_nothing l.told) (pushed_each (r.start + r.length) l.store (givens_from list (r.start + r.length))) (all_after (of l.told) l.store (r.start + r.length))
    unfolding pushed_each
    first = rw (o.first, ← q, past)

    pub each_turn : is_nothing l.told ≡ true → pushed_each p s (givens_from list p) ≡ pushed_each (r.start + r.length) l.store (givens_from list (r.start + r.length))
    each_turn t = first ∙ rw t

    pub each_stop : is_nothing l.told ≡ false → pushed_each p s (givens_from list p) ≡ all_after (of l.told) l.store (r.start + r.length)
    each_stop t = first ∙ rw t

-- the part of the list that a place tells of
pub at_pushed : (s : Store) (list : Bytes) (r : Place) (k : SetsAfter) → k ≡ pushed_of s r.input (Some r.pid) (take (r.start + r.length - r.start) (drop r.start list)) → k ≡ pushed_given s (given_at list r)
at_pushed s list r k e = let z : r.start + r.length - r.start ≡ r.length = omega arith in e ∙ rw z

-- ---- the call

-- nothing pushed
abbrev none : Refusal → Sets → AllPushed
none n sets = record { answer = answer.Pushed (push_answer.Refused n); sets = sets; taken = 0 }

module _ (sets : Sets) (heads slots cells : List ℕ) (gs : List Given) (w : Bool) (e : w ≡ whole_of (store sets heads slots cells)) where
  pub listed_broken : (r : AllPushed) → w ≡ false → r ≡ none NotWhole sets → after_all r heads slots cells ≡ pushed_sections (store sets heads slots cells) gs
  unfolding pushed_sections
  listed_broken r t q = rw (q, ← e, t)

  module _ (full : Bool) (g : full ≡ counters_full sets) (t : w ≡ true) where
    pub listed_full : (r : AllPushed) → full ≡ true → r ≡ none CounterFull sets → after_all r heads slots cells ≡ pushed_sections (store sets heads slots cells) gs
    unfolding pushed_sections
    listed_full r h q = rw (q, ← e, t, ← g, h)

    pub listed_without : (n : Bool) (r : AllPushed) → full ≡ false → n ≡ without_pid heads sets.used → n ≡ true → r ≡ none NoPid sets
        → after_all r heads slots cells ≡ pushed_sections (store sets heads slots cells) gs
    unfolding pushed_sections
    listed_without n r h f y q = rw (q, ← e, t, ← g, h, ← f, y)

    pub listed_each : (n : Bool) (k : AllAfter) → full ≡ false → n ≡ without_pid heads sets.used → n ≡ false → k ≡ pushed_each 0 (store sets heads slots cells) gs
        → k ≡ pushed_sections (store sets heads slots cells) gs
    unfolding pushed_sections
    listed_each n k h f y q = rw (← e, t, ← g, h, ← f, y) q

-- a store that passed both looks
pub looked : (s : Sets) (heads slots cells : List ℕ) (w n : Bool) → w ≡ whole_of (store s heads slots cells) → w ≡ true → n ≡ without_pid heads s.used → n ≡ false → Pushable s heads slots cells
looked s heads slots cells w n e t f y = record { whole = is_whole_means s heads slots cells w e t; pids = sym f ∙ y }

module _ (s : Store) (list : Bytes) (j : Result Unit ListError) (e : j ≡ judged_of (sections_in list)) where
  pub all_pushed : (k : AllAfter) → j ≡ Ok tt → k ≡ pushed_sections s (givens_from list 0) → k ≡ pushed_all s list
  unfolding pushed_all
  all_pushed k q f = go (sections_in list) (sym e ∙ q) f
    where
      go : (l : Listed) → judged_of l ≡ Ok tt → k ≡ pushed_sections s (givens_of l) → k ≡ pushed_list s l
      go too_long w g = absurd (let z : ◌≡◌ {A = ℕ} 0 1 = cc in omega arith)
      go cut w g = absurd (let z : ◌≡◌ {A = ℕ} 0 1 = cc in omega arith)
      go (sections gs) w g = g

  pub all_cut : (r : AllPushed) → j ≡ Err error.Cut → r ≡ none NotWhole s.sets → after_all r s.heads s.slots s.cells ≡ pushed_all s list
  unfolding pushed_all
  all_cut r q f = rw f (go (sections_in list) (sym e ∙ q))
    where
      go : (l : Listed) → judged_of l ≡ Err error.Cut → all_after (of (refused NotWhole)) s 0 ≡ pushed_list s l
      go too_long w = absurd (let z : ◌≡◌ {A = ℕ} 0 1 = cc in omega arith)
      go cut w = refl
      go (sections gs) w = absurd (let z : ◌≡◌ {A = ℕ} 0 1 = cc in omega arith)

  pub all_long : (r : AllPushed) → j ≡ Err error.TooLong → r ≡ record { answer = answer.TooLong; sets = s.sets; taken = 0 } → after_all r s.heads s.slots s.cells ≡ pushed_all s list
  unfolding pushed_all
  all_long r q f = rw f (go (sections_in list) (sym e ∙ q))
    where
      go : (l : Listed) → judged_of l ≡ Err error.TooLong → all_after overlong s 0 ≡ pushed_list s l
      go too_long w = refl
      go cut w = absurd (let z : ◌≡◌ {A = ℕ} 0 1 = cc in omega arith)
      go (sections gs) w = absurd (let z : ◌≡◌ {A = ℕ} 0 1 = cc in omega arith)

  pub all_whole_lem : j ≡ Ok tt → WholeFrom list 0
  all_whole_lem q = from_start list (sym e ∙ q)

-- ---- sections that only touch their row, first

module _ (list : Bytes) (s₀ : Store) where
  -- what is left gives the whole
  pub passed_each : {p : ℕ} {s : Store} → Passed list s₀ p s → pushed_each 0 s₀ (givens_from list 0) ≡ pushed_each p s (givens_from list p)
  passed_each start = refl
  passed_each (next k r o t e) = passed_each k ∙ each_turn list _ _ r o (after nothing t) e refl

pub rest_pushed : (list : Bytes) (s₀ s : Store) (p : ℕ) (k : AllAfter) → Passed list s₀ p s → k ≡ pushed_each p s (givens_from list p) → k ≡ pushed_each 0 s₀ (givens_from list 0)
rest_pushed list s₀ s p k o e = e ∙ sym (passed_each list s₀ o)

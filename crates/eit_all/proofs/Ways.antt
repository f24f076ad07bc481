-- The call: one law for each way out.
-- Assumes nothing.
use mathlib.Core.Path.{◌≡◌, refl, sym, ◌∙◌}
use mathlib.Core.List.{List}
use mathlib.Core.Bool.{Bool, true, false}
use Prim.Native.Nat.{ℕ}
use native.Mathlib.Omega.{arith}
use Rattle.answers.specs.declared.Refusal.{Refusal}
use Rattle.answers.specs.declared.Refusal.TheVariants.{NotWhole, CounterFull, NoPid}
use Rattle.eit_state.specs.declared.Eit.{Eit}
use Rattle.eit_state.specs.declared.PushAnswer.TheVariants as push_answer
use Rattle.eit_state.specs.State.{Store, store, whole_of, counters_full}
use Rattle.eit_pids.specs.Rows.{any_without}
use Rattle.eit.specs.Store.{refused}
use Rattle.eit_keeps.proofs.Stays.{means_store}
use Rattle.eit_ready.specs.Ready.{Pushable}
use Rattle.rules_logs.specs.Records.{Bytes}
use Rattle.rules_logs.specs.Sections.{Given, Listed, too_long, cut, sections, sections_in}
use Rattle.log_list.specs.List.{judged_of, givens_of, givens_from, WholeFrom}
use Rattle.std.specs.Prelude.{Result, Ok, Err}
use Rattle.log_list.specs.declared.ListError.{ListError}
use Rattle.log_list.specs.declared.ListError.TheVariants as error
use Rattle.log_list.proofs.Laws.{from_start}
use Rattle.eit_each.specs.declared.AllAnswer.TheVariants as answer
use Rattle.eit_each.specs.declared.AllPushed.{AllPushed}
use Rattle.eit_each.specs.Each.{of, overlong, AllAfter, all_after, after_all, pushed_each}
use Rattle.eit_repeats.specs.Repeats.{Passed}
use Rattle.eit_all.specs.All.{pushed_sections, pushed_list, pushed_all}

-- nothing pushed
abbrev none : Refusal → Eit → AllPushed
none n eit = record { answer = answer.Pushed (push_answer.Refused n); eit = eit; taken = 0 }

module _ (e : Eit) (heads slots cells schedule_heads units : List ℕ) (gs : List Given) (w : Bool) (q : w ≡ whole_of (store e heads slots cells schedule_heads units)) where
  abbrev here : Store
  here = store e heads slots cells schedule_heads units

  pub listed_broken : (r : AllPushed) → w ≡ false → r ≡ none NotWhole e → after_all r heads slots cells schedule_heads units ≡ pushed_sections here gs
  unfolding pushed_sections
  listed_broken r t f = rw (f, ← q, t)

  module _ (t : w ≡ true) (full : Bool) (g : full ≡ counters_full e) where
    pub listed_full : (r : AllPushed) → full ≡ true → r ≡ none CounterFull e → after_all r heads slots cells schedule_heads units ≡ pushed_sections here gs
    unfolding pushed_sections
    listed_full r h f = rw (f, ← q, t, ← g, h)

    module _ (h : full ≡ false) (n : Bool) (o : n ≡ any_without e heads schedule_heads) where
      pub listed_without : (r : AllPushed) → n ≡ true → r ≡ none NoPid e → after_all r heads slots cells schedule_heads units ≡ pushed_sections here gs
      unfolding pushed_sections
      listed_without r y f = rw (f, ← q, t, ← g, h, ← o, y)

      pub listed_each : (k : AllAfter) → n ≡ false → k ≡ pushed_each 0 here gs → k ≡ pushed_sections here gs
      unfolding pushed_sections
      listed_each k y f = rw (← q, t, ← g, h, ← o, y) f

-- the sections behind those that were pushed first
pub first_each : (e e' : Eit) (heads slots cells schedule_heads units heads' : List ℕ) (list : Bytes) (p : ℕ) (k : AllAfter) → Passed list slots cells e heads e' heads' p → Pushable (store e heads slots cells schedule_heads units)
    → k ≡ pushed_each p (store e' heads' slots cells schedule_heads units) (givens_from list p) → k ≡ pushed_each 0 (store e heads slots cells schedule_heads units) (givens_from list 0)
first_each e e' heads slots cells schedule_heads units heads' list p k d w f = f ∙ d.gives schedule_heads units w

-- a store that passed both looks
pub looked : (e : Eit) (heads slots cells schedule_heads units : List ℕ) (w n : Bool) → w ≡ whole_of (store e heads slots cells schedule_heads units) → w ≡ true → n ≡ any_without e heads schedule_heads → n ≡ false
    → Pushable (store e heads slots cells schedule_heads units)
looked e heads slots cells schedule_heads units w n q t o y = record { whole = means_store (store e heads slots cells schedule_heads units) (sym q ∙ t); pids = sym o ∙ y }

module _ (e : Eit) (heads slots cells schedule_heads units : List ℕ) (list : Bytes) (j : Result Unit ListError) (q : j ≡ judged_of (sections_in list)) where
  abbrev s : Store
  s = store e heads slots cells schedule_heads units

  pub all_pushed : (k : AllAfter) → j ≡ Ok tt → k ≡ pushed_sections s (givens_from list 0) → k ≡ pushed_all s list
  unfolding pushed_all
  all_pushed k t f = go (sections_in list) (sym q ∙ t) f
    where
      go : (l : Listed) → judged_of l ≡ Ok tt → k ≡ pushed_sections s (givens_of l) → k ≡ pushed_list s l
      go too_long w g = absurd (let z : ◌≡◌ {A = ℕ} 0 1 = cc in omega arith)
      go cut w g = absurd (let z : ◌≡◌ {A = ℕ} 0 1 = cc in omega arith)
      go (sections gs) w g = g

  pub all_cut : (r : AllPushed) → j ≡ Err error.Cut → r ≡ none NotWhole e → after_all r heads slots cells schedule_heads units ≡ pushed_all s list
  unfolding pushed_all
  all_cut r t f = rw f (go (sections_in list) (sym q ∙ t))
    where
      go : (l : Listed) → judged_of l ≡ Err error.Cut → all_after (of (refused NotWhole)) s 0 ≡ pushed_list s l
      go too_long w = absurd (let z : ◌≡◌ {A = ℕ} 0 1 = cc in omega arith)
      go cut w = refl
      go (sections gs) w = absurd (let z : ◌≡◌ {A = ℕ} 0 1 = cc in omega arith)

  pub all_long : (r : AllPushed) → j ≡ Err error.TooLong → r ≡ record { answer = answer.TooLong; eit = e; taken = 0 } → after_all r heads slots cells schedule_heads units ≡ pushed_all s list
  unfolding pushed_all
  all_long r t f = rw f (go (sections_in list) (sym q ∙ t))
    where
      go : (l : Listed) → judged_of l ≡ Err error.TooLong → all_after overlong s 0 ≡ pushed_list s l
      go too_long w = refl
      go cut w = absurd (let z : ◌≡◌ {A = ℕ} 0 1 = cc in omega arith)
      go (sections gs) w = absurd (let z : ◌≡◌ {A = ℕ} 0 1 = cc in omega arith)

  pub all_whole_lem : j ≡ Ok tt → WholeFrom list 0
  all_whole_lem t = from_start list (sym q ∙ t)

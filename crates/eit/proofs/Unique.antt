-- One outcome of each call: two results, with the slices that they leave, that meet the same promise are equal.
-- Assumes nothing.
use mathlib.Core.Path.{◌≡◌, refl, sym, ap, ◌∙◌}
use mathlib.Core.List.{List}
use Prim.Native.Nat.{ℕ}
use Rattle.answers.specs.Answers.{Outcome}
use Rattle.std.specs.Prelude.{Option, Ok, Err}
use Rattle.readers.specs.declared.Next.{Next}
use Rattle.eit_state.specs.declared.Turned.{Turned}
use Rattle.eit_state.specs.declared.Pushed.{Pushed}
use Rattle.eit_state.specs.declared.PushAnswer.{PushAnswer}
use Rattle.eit_state.specs.declared.PushAnswer.TheVariants.{Nothing, Set, Schedule, Refused}
use Rattle.eit_state.specs.State.{Store}
use Rattle.eit_drop.specs.declared.Filter.{Filter}
use Rattle.eit.specs.Store.{Told, done, nothing, a_set, a_schedule, refused, set_out_lem, schedule_out, After, answer_of, outcome_of, turned, pushed, opened_of, pushed_of, cleared_of, dropped_of, next_of, next_in_of}

-- the answer that is told
abbrev told_answer : Told → PushAnswer
told_answer done = Nothing
told_answer nothing = Nothing
told_answer (a_set x) = Set x.row
told_answer (a_schedule x) = Schedule x.row
told_answer (refused r) = Refused r

answer_back : (a : PushAnswer) (s : Store) → told_answer (answer_of a s) ≡ a
unfolding set_out_lem schedule_out
answer_back Nothing s = refl
answer_back (Set i) s = refl
answer_back (Schedule k) s = refl
answer_back (Refused r) s = refl

abbrev told_outcome : Told → Outcome
told_outcome done = Ok tt
told_outcome nothing = Ok tt
told_outcome (a_set x) = Ok tt
told_outcome (a_schedule x) = Ok tt
told_outcome (refused r) = Err r

outcome_back : (a : Outcome) → told_outcome (outcome_of a) ≡ a
outcome_back (Ok _) = refl
outcome_back (Err r) = refl

-- the five slices are the same
pub record Same (h l c t u h' l' c' t' u' : List ℕ) : Type 0 where
  pub heads : h ≡ h'
  pub slots : l ≡ l'
  pub cells : c ≡ c'
  pub schedule_heads : t ≡ t'
  pub units : u ≡ u'

module _ (h l c t u h' l' c' t' u' : List ℕ) where
  turning : (d : After) (r r' : Turned) → turned r h l c t u ≡ d → turned r' h' l' c' t' u' ≡ d → (r ≡ r') × Same h l c t u h' l' c' t' u'
  turning d r r' p p' =
      let q : turned r h l c t u ≡ turned r' h' l' c' t' u' = p ∙ sym p' in
      let e : r.eit ≡ r'.eit = ap (λ (x : After). x.store.eit) q in
      let a : r.answer ≡ r'.answer = sym (outcome_back r.answer) ∙ ap (λ (x : After). told_outcome x.told) q ∙ outcome_back r'.answer in (
        (λ i. record { answer = a i; eit = e i }),
        record { heads = ap (λ (x : After). x.store.heads) q; slots = ap (λ (x : After). x.store.slots) q; cells = ap (λ (x : After). x.store.cells) q; schedule_heads = ap (λ (x : After). x.store.schedule_heads) q; units = ap (λ (x : After). x.store.units) q },
      )

  pub opening : (s : Store) (r r' : Turned) → turned r h l c t u ≡ opened_of s → turned r' h' l' c' t' u' ≡ opened_of s → (r ≡ r') × Same h l c t u h' l' c' t' u'
  opening s = turning (opened_of s)

  pub clearing : (s : Store) (r r' : Turned) → turned r h l c t u ≡ cleared_of s → turned r' h' l' c' t' u' ≡ cleared_of s → (r ≡ r') × Same h l c t u h' l' c' t' u'
  clearing s = turning (cleared_of s)

  pub dropping : (s : Store) (f : Filter) (r r' : Turned) → turned r h l c t u ≡ dropped_of s f → turned r' h' l' c' t' u' ≡ dropped_of s f → (r ≡ r') × Same h l c t u h' l' c' t' u'
  dropping s f = turning (dropped_of s f)

  pub pushing : (s : Store) (input : ℕ) (pid : Option ℕ) (bytes : List ℕ) (r r' : Pushed) → pushed r h l c t u ≡ pushed_of s input pid bytes → pushed r' h' l' c' t' u' ≡ pushed_of s input pid bytes → (r ≡ r') × Same h l c t u h' l' c' t' u'
  pushing s input pid bytes r r' p p' =
      let q : pushed r h l c t u ≡ pushed r' h' l' c' t' u' = p ∙ sym p' in
      let e : r.eit ≡ r'.eit = ap (λ (x : After). x.store.eit) q in
      let a : r.answer ≡ r'.answer = sym (answer_back r.answer _) ∙ ap (λ (x : After). told_answer x.told) q ∙ answer_back r'.answer _ in (
        (λ i. record { answer = a i; eit = e i }),
        record { heads = ap (λ (x : After). x.store.heads) q; slots = ap (λ (x : After). x.store.slots) q; cells = ap (λ (x : After). x.store.cells) q; schedule_heads = ap (λ (x : After). x.store.schedule_heads) q; units = ap (λ (x : After). x.store.units) q },
      )

-- a question leaves everything as it was: one answer
pub next_section : (s : Store) (row from : ℕ) (r r' : Next) → r ≡ next_of s row from → r' ≡ next_of s row from → r ≡ r'
next_section s row from r r' p p' = p ∙ sym p'

pub next_in_schedule : (s : Store) (row table from : ℕ) (r r' : Next) → r ≡ next_in_of s row table from → r' ≡ next_in_of s row table from → r ≡ r'
next_in_schedule s row table from r r' p p' = p ∙ sym p'

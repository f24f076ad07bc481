-- One section after another over a list: one law for each turn and each way out.
-- Assumes nothing.
use mathlib.Core.Path.{◌≡◌, refl, sym, ◌∙◌}
use mathlib.Core.Bool.{true, false, cond}
use Prim.Native.Nat.{ℕ, ◌+◌, ◌-◌, ◌≤◌}
use native.Mathlib.Omega.{arith}
use borrow.Author.Tests.{eq-eqb, ne_eqb, ltb-false}
use lib.Dec.{eqb}
use lib.ListN.{length, take, drop, length-drop}
use lib.Seq.{length-take-le}
use Rattle.answers.specs.Answers.{refusal_no}
use Rattle.answers.proofs.Laws.{refused_from_10}
use Rattle.std.specs.Prelude.{Some}
use Rattle.eit_state.specs.State.{Store, push_number}
use Rattle.eit_state.specs.declared.PushAnswer.{PushAnswer}
use Rattle.eit_state.specs.declared.PushAnswer.TheVariants as push_answer
use Rattle.eit.specs.Store.{nothing, After, answer_of, pushed_of}
use Rattle.rules_logs.specs.Records.{Bytes}
use Rattle.log_list.specs.List.{givens_from, given_at, PlacedAt}
use Rattle.log_list.specs.declared.Place.{Place}
use Rattle.log_list.proofs.Laws.{none_left}
use Rattle.eit_each.specs.Each.{of, all_after, is_nothing, pushed_given, pushed_each}

-- 4 is told of nothing to hand out alone
four_answer : (a : PushAnswer) (s : Store) → is_nothing (answer_of a s) ≡ eqb (push_number a) 4
four_answer push_answer.Nothing s = refl
four_answer (push_answer.Set i) s = refl
four_answer (push_answer.Schedule k) s = refl
four_answer (push_answer.Refused r) s = let h : 10 ≤ refusal_no r = ltb-false (refusal_no r) 10 (refused_from_10 r) in sym (ne_eqb (refusal_no r) 4 (λ e. omega (arith, h, e)))

pub goes_on_lem : (a : PushAnswer) (s : Store) (m : ℕ) → m ≡ push_number a → m ≡ 4 → is_nothing (answer_of a s) ≡ true
goes_on_lem a s m e z = four_answer a s ∙ eq-eqb (push_number a) 4 (sym e ∙ z)

pub stops : (a : PushAnswer) (s : Store) (m : ℕ) → m ≡ push_number a → (m ≡ 4 → ⊥) → is_nothing (answer_of a s) ≡ false
stops a s m e z = four_answer a s ∙ ne_eqb (push_number a) 4 (λ q. z (e ∙ q))

module _ (list : Bytes) (p : ℕ) (s : Store) where
  pub each_end : length list ≤ p → pushed_each p s (givens_from list p) ≡ all_after (of nothing) s p
  unfolding pushed_each
  each_end h = rw (none_left list p h)

  module _ (r : Place) (o : PlacedAt list p r) (l : After) (q : l ≡ pushed_given s (given_at list r)) where
    size : length (given_at list r).section ≡ r.length
    size = length-take-le r.length (drop r.start list) (let w = o.behind.within in rw length-drop (omega (arith, w)))

    past : p + (5 + length (given_at list r).section) ≡ r.start + r.length
    past = let e = o.starts in rw size (omega (arith, e))

    first : pushed_each p s (givens_from list p) ≡ cond (is_nothing l.told) (pushed_each (r.start + r.length) l.store (givens_from list (r.start + r.length))) (all_after (of l.told) l.store (r.start + r.length))
    unfolding pushed_each
    first = rw (o.first, ← q, past)

    pub each_turn : is_nothing l.told ≡ true → pushed_each p s (givens_from list p) ≡ pushed_each (r.start + r.length) l.store (givens_from list (r.start + r.length))
    each_turn t = first ∙ rw t

    pub each_stop : is_nothing l.told ≡ false → pushed_each p s (givens_from list p) ≡ all_after (of l.told) l.store (r.start + r.length)
    each_stop t = first ∙ rw t

-- the part of the list that a place tells of
pub at_pushed : (s : Store) (list : Bytes) (r : Place) (k : After) → k ≡ pushed_of s r.input (Some r.pid) (take (r.start + r.length - r.start) (drop r.start list)) → k ≡ pushed_given s (given_at list r)
at_pushed s list r k e = let z : r.start + r.length - r.start ≡ r.length = omega arith in e ∙ rw z

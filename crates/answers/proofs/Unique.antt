-- A promise on a number names one.
-- Assumes nothing.
use mathlib.Core.Path.{◌≡◌, sym, ◌∙◌}
use Prim.Native.Nat.{ℕ}
use Rattle.answers.specs.Answers.{refusal_no, outcome_no, reply_no, Outcome, Reply}
use Rattle.answers.specs.declared.Refusal.{Refusal}

pub unique_refusal_number : (a : Refusal) (r q : ℕ) → r ≡ refusal_no a → q ≡ refusal_no a → r ≡ q
unique_refusal_number a r q e f = e ∙ sym f

pub unique_outcome_number : (a : Outcome) (r q : ℕ) → r ≡ outcome_no a → q ≡ outcome_no a → r ≡ q
unique_outcome_number a r q e f = e ∙ sym f

pub unique_reply_number : (a : Reply) (r q : ℕ) → r ≡ reply_no a → q ≡ reply_no a → r ≡ q
unique_reply_number a r q e f = e ∙ sym f

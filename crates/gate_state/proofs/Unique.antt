-- The promise of each call names one result, and no two answers are said alike.
-- Assumes nothing.
use Prim.Native.Nat.{ℕ}
use mathlib.Core.Path.{◌≡◌, refl, sym, ap, ◌∙◌}
use mathlib.Core.Bool.{cond}
use lib.Dec.{eqb, ltb}
use Rattle.laws.proofs.Unique.{one_result}
use Rattle.answers.proofs.Laws.{refusal_at, refusal_at_lem, refused_from_10}
use Rattle.gate_state.specs.State.{defaults, Said, plain, short, mismatch, said_of, number_of}
use Rattle.offers.specs.declared.Failure.TheVariants.{TooShort, Mismatch}
use Rattle.gate_state.specs.declared.Settings.{Settings}
use Rattle.gate_state.specs.declared.Answer.{Answer}
use Rattle.gate_state.specs.declared.Answer.TheVariants.{Emitted, Suppressed, Failed, Refused}

-- the answer that is said so
answer_at : Said → Answer
answer_at (plain n) = cond (ltb n 10) (cond (eqb n 1) Emitted Suppressed) (Refused (refusal_at n))
answer_at (short n) = Failed (TooShort n)
answer_at (mismatch stored worked) = Failed (Mismatch stored worked)

answer_at_lem : (a : Answer) → answer_at (said_of a) ≡ a
unfolding answer_at
answer_at_lem Emitted = refl
answer_at_lem Suppressed = refl
answer_at_lem (Failed (TooShort n)) = refl
answer_at_lem (Failed (Mismatch stored worked)) = refl
answer_at_lem (Refused r) = rw (refused_from_10 r, refusal_at_lem r)

-- no two answers are said alike, values and all
pub answer_one : (a b : Answer) → said_of a ≡ said_of b → a ≡ b
answer_one a b e = sym (answer_at_lem a) ∙ ap answer_at e ∙ answer_at_lem b

pub by_default_unique : (a b : Settings) → a ≡ defaults → b ≡ defaults → a ≡ b
by_default_unique a b = one_result defaults

pub number_unique : (answer : Answer) (a b : ℕ) → a ≡ number_of (said_of answer) → b ≡ number_of (said_of answer) → a ≡ b
number_unique answer a b = one_result (number_of (said_of answer))

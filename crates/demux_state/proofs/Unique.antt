-- No two answers are said alike, and each promise names one result.
-- Assumes nothing.
use Prim.Native.Nat.{ℕ}
use mathlib.Core.Path.{◌≡◌, refl, sym, ap, ◌∙◌}
use mathlib.Core.Bool.{false, cond, ◌||◌}
use lib.Dec.{eqb}
use Rattle.laws.proofs.Tests.{or_false}
use Rattle.laws.proofs.Unique.{one_result}
use Rattle.answers.specs.Answers.{refusal_no}
use Rattle.answers.specs.declared.Refusal.{Refusal}
use Rattle.answers.specs.declared.Refusal.TheVariants as refusal
use Rattle.answers.proofs.Laws.{refusal_at, refusal_at_lem}
use Rattle.demux_state.specs.State.{Said, plain, finished, said_of, number_of, finished_of}
use Rattle.demux_state.specs.declared.Answer.{Answer}
use Rattle.demux_state.specs.declared.Answer.TheVariants.{Taken, Malformed, NoBuffer, Refused}

-- no refusal has the number of a packet that is counted
other_numbers : (r : Refusal) → (eqb (refusal_no r) 30 || eqb (refusal_no r) 43) ≡ false
other_numbers refusal.NotWhole = refl
other_numbers refusal.CounterFull = refl
other_numbers refusal.BadPid = refl
other_numbers refusal.TooLittle = refl
other_numbers refusal.Malformed = refl
other_numbers refusal.ShortForm = refl
other_numbers refusal.BadNumber = refl
other_numbers refusal.BadCrc = refl
other_numbers refusal.NotEit = refl
other_numbers refusal.Broken = refl
other_numbers refusal.TooLong = refl
other_numbers refusal.NoCell = refl
other_numbers refusal.Conflict = refl
other_numbers refusal.Range = refl
other_numbers refusal.BadInput = refl
other_numbers refusal.NoPid = refl

-- the answer that is said so
answer_at : Said → Answer
answer_at (finished n) = Taken n
answer_at (plain n) = cond (eqb n 30) Malformed (cond (eqb n 43) NoBuffer (Refused (refusal_at n)))

answer_at_lem : (a : Answer) → answer_at (said_of a) ≡ a
unfolding answer_at
answer_at_lem (Taken n) = refl
answer_at_lem Malformed = refl
answer_at_lem NoBuffer = refl
answer_at_lem (Refused r) = let x = or_false (eqb (refusal_no r) 30) (eqb (refusal_no r) 43) (other_numbers r) in rw (x.0, x.1, refusal_at_lem r)

pub answer_one : (a b : Answer) → said_of a ≡ said_of b → a ≡ b
answer_one a b e = sym (answer_at_lem a) ∙ ap answer_at e ∙ answer_at_lem b

pub number_unique : (answer : Answer) (a b : ℕ) → a ≡ number_of (said_of answer) → b ≡ number_of (said_of answer) → a ≡ b
number_unique answer a b = one_result (number_of (said_of answer))

pub finished_unique : (answer : Answer) (a b : ℕ) → a ≡ finished_of (said_of answer) → b ≡ finished_of (said_of answer) → a ≡ b
finished_unique answer a b = one_result (finished_of (said_of answer))

-- The answer to a section that was seen, and the number of a failure.
-- Assumes nothing.
use mathlib.Core.Path.{◌≡◌, refl}
use mathlib.Core.Bool.{Bool, true, false, cond}
use Rattle.offers.specs.Offers.{is_short}
use Rattle.offers.specs.declared.Failure.{Failure}
use Rattle.offers.specs.declared.Failure.TheVariants.{TooShort, Mismatch}
use Rattle.gate_state.specs.State.{Said, plain, said_of, answer_of, failure_no}

pub answer_said : (emits : Bool) → said_of (answer_of emits) ≡ plain (cond emits 1 2)
answer_said true = refl
answer_said false = refl

pub failure_no_lem : (f : Failure) → failure_no f ≡ cond (is_short f) 31 3
failure_no_lem (TooShort n) = refl
failure_no_lem (Mismatch stored worked) = refl

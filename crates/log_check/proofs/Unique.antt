-- The promise of a check names one answer, one place and one content of each slice that it is lent; a number is the one of its answer.
-- Assumes nothing.
use mathlib.Core.Path.{◌≡◌, ap}
use Prim.Native.Nat.{ℕ}
use Rattle.laws.proofs.Unique.{one_result}
use Rattle.rules_logs.specs.Records.{Bytes}
use Rattle.log_state.specs.declared.Settings.{Settings}
use Rattle.log_sections.specs.Steps.{Memory}
use Rattle.std.specs.Prelude.{Result}
use Rattle.log_check.specs.declared.CheckError.{CheckError}
use Rattle.log_check.specs.Check.{check_no, error_no, Check, check_as, checked_of}

pub unique_check : (s : Settings) (list log : Bytes) (m : Memory) (r q : Result Unit CheckError) (n o : Memory)
    → check_as r n ≡ checked_of s list log m → check_as q o ≡ checked_of s list log m → (r ≡ q) × (n ≡ o)
unique_check s list log m r q n o d e =
    let same : check_as r n ≡ check_as q o = one_result (checked_of s list log m) d e in
    (ap (λ (c : Check). c.checked) same, ap (λ (c : Check). c.memory) same)

pub unique_check_number : (a : Result Unit CheckError) (r q : ℕ) → r ≡ check_no a → q ≡ check_no a → r ≡ q
unique_check_number a r q = one_result (check_no a)

pub unique_error_number : (e : CheckError) (r q : ℕ) → r ≡ error_no e → q ≡ error_no e → r ≡ q
unique_error_number e r q = one_result (error_no e)

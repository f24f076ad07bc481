-- The promise of a writer names one answer, one length and one content of each slice that it is lent; a number is the one of its answer.
-- Assumes nothing.
use mathlib.Core.Path.{◌≡◌, ap}
use Prim.Native.Nat.{ℕ}
use Rattle.laws.proofs.Unique.{one_result}
use Rattle.rules_logs.specs.Records.{Bytes}
use Rattle.log_state.specs.declared.Settings.{Settings}
use Rattle.log_sections.specs.Steps.{Memory}
use Rattle.std.specs.Prelude.{Result}
use Rattle.log_write.specs.declared.WriteError.{WriteError}
use Rattle.log_write.specs.Write.{write_no, error_no, Write, write_as, written_of}

pub unique_write : (s : Settings) (list room : Bytes) (m : Memory) (r q : Result ℕ WriteError) (a b : Bytes) (n o : Memory)
    → write_as r a n ≡ written_of s list room m → write_as q b o ≡ written_of s list room m → (r ≡ q) × (a ≡ b) × (n ≡ o)
unique_write s list room m r q a b n o d e =
    let same : write_as r a n ≡ write_as q b o = one_result (written_of s list room m) d e in
    (ap (λ (w : Write). w.written) same, ap (λ (w : Write). w.room) same, ap (λ (w : Write). w.memory) same)

pub unique_write_number : (a : Result ℕ WriteError) (r q : ℕ) → r ≡ write_no a → q ≡ write_no a → r ≡ q
unique_write_number a r q = one_result (write_no a)

pub unique_error_number : (e : WriteError) (r q : ℕ) → r ≡ error_no e → q ≡ error_no e → r ≡ q
unique_error_number e r q = one_result (error_no e)

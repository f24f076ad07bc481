-- Each call has one answer and one content of each array and slice that is lent to it to write, for every input: two that meet its promise are equal.
-- Assumes nothing.
use Prim.Native.Nat.{ℕ}
use mathlib.Core.Path.{◌≡◌, ap}
use mathlib.Core.List.{List}
use Rattle.laws.proofs.Unique.{one_result}
use Rattle.log_sections.specs.Steps.{Memory}
use Rattle.host_logs.specs.Calls.{CheckLeft, check_left, log_checked, WriteLeft, write_left, log_written}

module _ (settings sections : List ℕ) (m : Memory) (w : List ℕ) (r s : ℕ) (p q : List ℕ) (n k : Memory) where
  pub unique_log_check :
      (log : List ℕ) → check_left r p n ≡ log_checked settings sections log m w → check_left s q k ≡ log_checked settings sections log m w → (r ≡ s) × (p ≡ q) × (n ≡ k)
  unique_log_check log a b =
      let e : check_left r p n ≡ check_left s q k = one_result (log_checked settings sections log m w) a b in
      (ap (λ (x : CheckLeft). x.answer) e, ap (λ (x : CheckLeft). x.place) e, ap (λ (x : CheckLeft). x.memory) e)

  pub unique_log_write :
      (room l o : List ℕ) → write_left r p l n ≡ log_written settings sections room m w → write_left s q o k ≡ log_written settings sections room m w → (r ≡ s) × (p ≡ q) × (l ≡ o) × (n ≡ k)
  unique_log_write room l o a b =
      let e : write_left r p l n ≡ write_left s q o k = one_result (log_written settings sections room m w) a b in
      (ap (λ (x : WriteLeft). x.answer) e, ap (λ (x : WriteLeft). x.length) e, ap (λ (x : WriteLeft). x.room) e, ap (λ (x : WriteLeft). x.memory) e)

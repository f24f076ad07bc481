-- Passing over packets has one answer and leaves one content of what is lent: two answers and exit contents that meet its promise are equal.
-- Assumes nothing.
use Prim.Native.Nat.{ℕ}
use mathlib.Core.Path.{◌≡◌, ap}
use mathlib.Core.List.{List}
use Rattle.laws.proofs.Unique.{one_result}
use Rattle.pats.specs.Store.{Record}
use Rattle.host_pass.specs.Calls.{PassLeft, left, packets_passed}

pub unique_pass :
    (gate streams keys changes : List ℕ) (watch : Record) (pids buffers : List ℕ) (input : ℕ) (packets places : List ℕ) (r s : ℕ) (t u p q : List ℕ) →
    left r t p ≡ packets_passed gate streams keys changes watch pids buffers input packets places →
    left s u q ≡ packets_passed gate streams keys changes watch pids buffers input packets places →
    (r ≡ s) × (t ≡ u) × (p ≡ q)
unique_pass gate streams keys changes watch pids buffers input packets places r s t u p q i j =
    let o : left r t p ≡ left s u q = one_result (packets_passed gate streams keys changes watch pids buffers input packets places) i j in
    (ap (λ (v : PassLeft). v.number) o, ap (λ (v : PassLeft). v.streams) o, ap (λ (v : PassLeft). v.pids) o)

-- Opening has one answer and leaves one content of each array and slice that is lent: two answers and exit contents that meet its promise are equal.
-- Assumes nothing.
use Prim.Native.Nat.{ℕ}
use mathlib.Core.Path.{◌≡◌, ap}
use mathlib.Core.List.{List}
use Rattle.laws.proofs.Unique.{one_result}
use Rattle.host_streams.specs.Calls.{StreamsBegun, begun, streams_opened}

pub unique_streams_open :
    (streams : List ℕ) (count : ℕ) (pids buffers : List ℕ) (r s : ℕ) (v w p q : List ℕ) →
    begun r v p ≡ streams_opened streams count pids buffers → begun s w q ≡ streams_opened streams count pids buffers → (r ≡ s) × (v ≡ w) × (p ≡ q)
unique_streams_open streams count pids buffers r s v w p q a b =
    let e : begun r v p ≡ begun s w q = one_result (streams_opened streams count pids buffers) a b in
    (ap (λ (l : StreamsBegun). l.answer) e, ap (λ (l : StreamsBegun). l.streams) e, ap (λ (l : StreamsBegun). l.pids) e)

-- Feeding a packet has one answer and leaves one content of each array and slice that is lent: two answers and exit contents that meet its promise are equal.
-- Assumes nothing.
use Prim.Native.Nat.{ℕ}
use mathlib.Core.Path.{◌≡◌, ap}
use mathlib.Core.List.{List}
use Rattle.laws.proofs.Unique.{one_result}
use Rattle.pats.specs.Store.{Record}
use Rattle.host_feed_indexed_calls.specs.Calls.{FeedLeft, left, packet_fed}

pub unique_indexed_feed :
    (gate streams keys changes buckets links : List ℕ) (watch : Record) (pids buffers : List ℕ) (input : ℕ) (packet places finished : List ℕ) (r s : ℕ)
    (g h t u k l m n d a d' a' : List ℕ) (w x : Record) (p q b c y z e f : List ℕ) →
    left r g t k m d a w p b y e ≡ packet_fed gate streams keys changes buckets links watch pids buffers input packet places finished →
    left s h u l n d' a' x q c z f ≡ packet_fed gate streams keys changes buckets links watch pids buffers input packet places finished →
    (r ≡ s) × (g ≡ h) × (t ≡ u) × (k ≡ l) × (m ≡ n) × (d ≡ d') × (a ≡ a') × (w ≡ x) × (p ≡ q) × (b ≡ c) × (y ≡ z) × (e ≡ f)
unique_indexed_feed gate streams keys changes buckets links watch pids buffers input packet places finished r s g h t u k l m n d a d' a' w x p q b c y z e f i j =
    let o : left r g t k m d a w p b y e ≡ left s h u l n d' a' x q c z f = one_result (packet_fed gate streams keys changes buckets links watch pids buffers input packet places finished) i j in (
      ap (λ (v : FeedLeft). v.answer) o,
      ap (λ (v : FeedLeft). v.gate) o,
      ap (λ (v : FeedLeft). v.streams) o,
      ap (λ (v : FeedLeft). v.keys) o,
      ap (λ (v : FeedLeft). v.changes) o,
      ap (λ (v : FeedLeft). v.buckets) o,
      ap (λ (v : FeedLeft). v.links) o,
      ap (λ (v : FeedLeft). v.watch) o,
      ap (λ (v : FeedLeft). v.pids) o,
      ap (λ (v : FeedLeft). v.buffers) o,
      ap (λ (v : FeedLeft). v.places) o,
      ap (λ (v : FeedLeft). v.finished) o,
    )

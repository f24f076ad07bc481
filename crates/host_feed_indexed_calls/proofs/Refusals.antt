-- What stays as it was in the words that a host lends: 10, 11 and 37 leave every word; 30 all but packets and malformed, 43 all but packets, whatever the words hold. An
-- array of n words is a list of length n.
-- Assumes nothing.
use Prim.Native.Nat.{ℕ}
use mathlib.Core.Path.{◌≡◌, sym, ap, ◌∙◌}
use mathlib.Core.List.{List}
use lib.ListN.{length}
use Rattle.pats.specs.Store.{Record}
use Rattle.demux_state.specs.State.{plain, number_of}
use Rattle.demux_store.specs.Carried.{with_streams, counted_by}
use Rattle.demux_store.proofs.Before.{Before}
use Rattle.demux_indexed_store.specs.Carried.{Store, Left}
use Rattle.demux_indexed_store.specs.Store.{fed}
use Rattle.demux_indexed_store.proofs.Before.{as_before_lem}
use Rattle.host_words.specs.Inputs.{input_number}
use Rattle.host_gate_words.specs.Words.{gate_of, counters_of}
use Rattle.host_gate_words.specs.Words as gate
use Rattle.host_gate_words.proofs.Same.{gate_same}
use Rattle.host_streams.specs.Words.{streams_of, finished_after, counts_after}
use Rattle.host_streams.proofs.Same.{counts_same}
use Rattle.host_feed_indexed_calls.specs.Calls.{left, left_as, store_in, packet_fed}

-- every answer but 29
pub indexed_feed_as_before :
    (g s keys changes buckets links : List ℕ) (watch : Record) (pids buffers : List ℕ) (input : ℕ) (packet places n : List ℕ) (answer : ℕ) → length g ≡ 13 → length s ≡ 3 →
    answer ≡ (packet_fed g s keys changes buckets links watch pids buffers input packet places n).answer → (answer ≡ 29 → ⊥) →
    packet_fed g s keys changes buckets links watch pids buffers input packet places n ≡ left answer g (counts_after answer s) keys changes buckets links watch pids buffers places n
unfolding packet_fed
indexed_feed_as_before g s keys changes buckets links watch pids buffers input packet places n answer i j e h =
    let x : Store = store_in g s keys changes buckets links watch pids buffers places in
    let l : Left = fed x (input_number input) packet in
    let b : Before x l = as_before_lem x (input_number input) packet (λ q. h (e ∙ q)) in
    (λ k. left_as g s n (record { answer = b.said k; store = b.store k }))
    ∙ (λ k. left (sym e k) (gate_same g i k) (counts_same s j (sym e k) k) keys changes buckets links watch pids buffers places n)

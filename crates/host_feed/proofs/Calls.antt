-- What feeding a packet leaves, from what its parts leave.
-- Assumes nothing.
use Prim.Native.Nat.{ℕ}
use mathlib.Core.Path.{◌≡◌, sym, ap, ◌∙◌}
use mathlib.Core.List.{List}
use Rattle.pats.specs.Store.{Record}
use Rattle.gate_pats.specs.Store.{kept_of}
use Rattle.streams.specs.declared.Streams.{Streams}
use Rattle.demux_state.specs.declared.Fed.{Fed}
use Rattle.demux_store.specs.Store.{store_of, fed_by, fed}
use Rattle.host_words.specs.Inputs.{input_number}
use Rattle.host_gate_words.specs.Words.{held_in}
use Rattle.host_gate_words.specs.declared.Held.{Held}
use Rattle.host_streams.specs.Words.{streams_of, Told, told, tells_fed}
use Rattle.host_feed.specs.Calls.{left, left_as, packet_fed}

pub packet_fed_lem : (g s keys changes : List ℕ) (watch : Record) (pids buffers : List ℕ) (input : ℕ) (packet places n : List ℕ) (h : Held) (k : Streams) (q : ℕ) (f : Fed)
    (ks ms : List ℕ) (ws : Record) (ps bs xs gs ss ns : List ℕ) (r : ℕ) → h ≡ held_in g → k ≡ streams_of s → q ≡ input_number input
    → fed_by f ks ms ws ps bs xs ≡ fed (store_of (kept_of h.gate h.counters keys changes watch) k pids buffers places) q packet → told r gs ss ns ≡ tells_fed f g s n
    → left r gs ss ks ms ws ps bs xs ns ≡ packet_fed g s keys changes watch pids buffers input packet places n
unfolding packet_fed
packet_fed_lem g s keys changes watch pids buffers input packet places n h k q f ks ms ws ps bs xs gs ss ns r d e u p t =
    (λ i. left (t i).answer (t i).gate (t i).streams ks ms ws ps bs xs (t i).finished)
    ∙ ap (left_as g s n) (p ∙ (λ i. fed (store_of (kept_of (d i).gate (d i).counters keys changes watch) (e i) pids buffers places) (u i) packet))

-- What passing over packets leaves, from what its parts leave.
-- Assumes nothing.
use Prim.Native.Nat.{ℕ, ◌/◌}
use mathlib.Core.Path.{◌≡◌, ap, ◌∙◌}
use mathlib.Core.List.{List}
use lib.ListN.{length}
use Rattle.pats.specs.Store.{Record}
use Rattle.ring_index.specs.Store.{index_of}
use Rattle.gate_pats_indexed.specs.Store.{kept_by}
use Rattle.streams.specs.declared.Streams.{Streams}
use Rattle.demux_indexed_store.specs.Carried.{store_of}
use Rattle.demux_pass.specs.declared.Passed.{Passed}
use Rattle.demux_indexed_pass.specs.Store.{passed_by, passing}
use Rattle.host_words.specs.Inputs.{input_number}
use Rattle.host_gate_words.specs.Words.{held_in}
use Rattle.host_gate_words.specs.declared.Held.{Held}
use Rattle.host_streams.specs.Words.{streams_of, words_after}
use Rattle.host_pass.specs.Calls.{left, left_as}
use Rattle.host_pass_indexed.specs.Calls.{packets_passed}

pub packets_passed_lem : (g s keys changes buckets links : List ℕ) (watch : Record) (pids buffers : List ℕ) (input : ℕ) (packets places : List ℕ) (h : Held) (k : Streams) (q : ℕ) (r : Passed)
    (ps ss : List ℕ) → h ≡ held_in g → k ≡ streams_of s → q ≡ input_number input
    → passed_by r (kept_by h.gate h.counters keys changes (index_of buckets links) watch) ps buffers places ≡ passing (length packets / 188) (store_of (kept_by h.gate h.counters keys changes (index_of buckets links) watch) k pids buffers places) q packets
    → ss ≡ words_after s r.streams → left r.number ss ps ≡ packets_passed g s keys changes buckets links watch pids buffers input packets places
unfolding packets_passed
packets_passed_lem g s keys changes buckets links watch pids buffers input packets places h k q r ps ss d e u p t =
    (λ i. left r.number (t i) ps)
    ∙ ap (left_as s) (p ∙ (λ i. passing (length packets / 188) (store_of (kept_by (d i).gate (d i).counters keys changes (index_of buckets links) watch) (e i) pids buffers places) (u i) packets))

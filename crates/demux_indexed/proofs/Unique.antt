-- A packet has one answer and leaves one content of each lent slice: two results and exit contents that meet the promise are equal.
-- Assumes nothing.
use Prim.Native.Nat.{ℕ}
use mathlib.Core.Path.{◌≡◌, ap}
use mathlib.Core.List.{List}
use Rattle.laws.proofs.Unique.{one_result}
use Rattle.ring_index.specs.Store.{Index}
use Rattle.pats.specs.Store.{Record}
use Rattle.demux_state.specs.declared.Fed.{Fed}
use Rattle.demux_state.proofs.Unique.{answer_one}
use Rattle.demux_indexed_store.specs.Carried.{Store, Left, fed_by}
use Rattle.demux_indexed_store.specs.Store.{fed}

pub feed_unique :
    (s : Store) (input : ℕ) (packet : List ℕ) (a b : Fed) (ks ls ms ns : List ℕ) (x y : Index) (v w : Record) (ps qs bs cs ts us : List ℕ) →
    fed_by a ks ms x v ps bs ts ≡ fed s input packet → fed_by b ls ns y w qs cs us ≡ fed s input packet →
    (a ≡ b) × (ks ≡ ls) × (ms ≡ ns) × (x ≡ y) × (v ≡ w) × (ps ≡ qs) × (bs ≡ cs) × (ts ≡ us)
feed_unique s input packet a b ks ls ms ns x y v w ps qs bs cs ts us p q =
    let e : fed_by a ks ms x v ps bs ts ≡ fed_by b ls ns y w qs cs us = one_result (fed s input packet) p q in
    let n = answer_one a.answer b.answer (ap (λ (l : Left). l.answer) e) in
    let g = ap (λ (l : Left). l.store.gate.kept.gate) e in
    let c = ap (λ (l : Left). l.store.gate.kept.counters) e in
    let t = ap (λ (l : Left). l.store.streams) e in (
      λ i. record { answer = n i; gate = g i; counters = c i; streams = t i },
      ap (λ (l : Left). l.store.gate.kept.keys) e,
      ap (λ (l : Left). l.store.gate.kept.changes) e,
      ap (λ (l : Left). l.store.gate.index) e,
      ap (λ (l : Left). l.store.gate.kept.watch) e,
      ap (λ (l : Left). l.store.pids) e,
      ap (λ (l : Left). l.store.buffers) e,
      ap (λ (l : Left). l.store.places) e,
    )

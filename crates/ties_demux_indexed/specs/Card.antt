-- The memory of a card whose gate has an index over its rows: that of a card, and the index, which all inputs share as they share the rows. Its calls, and beside
-- them those of a card without an index (docs/RULES.md, "Gate", "Inputs" and "Packets").
use Rattle.std.specs.Prelude.{List, ℕ}
use Rattle.ring_index.specs.Store.{Index}
use Rattle.transport.specs.Rules.{Bytes}
use Rattle.gate_state.specs.State.{Said}
use Rattle.gate_pats.specs.Store.{Kept}
use Rattle.gate_pats.specs.Store as plain
use Rattle.gate_pats_indexed.specs.Store.{KeptBy}
use Rattle.gate_pats_indexed.specs.Store as indexed
use Rattle.demux_store.specs.Carried.{StoreOf, store_of, LeftOf, left}
use Rattle.demux_indexed_store.specs.Store.{fed}
use Rattle.ties_demux.specs.Card.{Gates, Card, kept_on, gates_with, back_from, Told, told_by}

pub record CardBy : Type 0 where
  pub card : Card
  pub index : Index

-- the gate of an input, and its index
abbrev pub kept_with : (input : ℕ) → CardBy → KeptBy
kept_with i c = record { kept = kept_on i c.card.gates; index = c.index }

-- what is lent to a packet, and what it leaves, without the index
abbrev pub bare : StoreOf KeptBy → StoreOf Kept
bare s = store_of s.gate.kept s.streams s.pids s.buffers s.places

abbrev pub bare_left : LeftOf KeptBy → LeftOf Kept
bare_left l = left l.answer (bare l.store)

-- ---- a packet

abbrev pub lent_with : (input : ℕ) → CardBy → StoreOf KeptBy
lent_with i c = store_of (kept_with i c) (c.card.inputs i).streams (c.card.inputs i).pids (c.card.inputs i).buffers c.card.places

-- the card when the call is over
abbrev pub back_with : (input : ℕ) → StoreOf KeptBy → CardBy → CardBy
back_with i s c = record { card = back_from i (bare s) c.card; index = s.gate.index }

abbrev pub call_with : CardBy → (input : ℕ) → Bytes → LeftOf KeptBy
call_with c i packet = fed (lent_with i c) i packet

unfoldable pub feed_acts : CardBy → (input : ℕ) → Bytes → CardBy
feed_acts c i packet = back_with i (call_with c i packet).store c

unfoldable pub feed_tells : CardBy → (input : ℕ) → Bytes → Told
feed_tells c i packet = told_by (bare_left (call_with c i packet)) packet

-- ---- a section that is offered

abbrev pub with_gates : Card → Gates → Card
with_gates c g = record { gates = g; inputs = c.inputs; places = c.places }

unfoldable pub plain_acts : Card → (input pid : ℕ) → Bytes → Card
plain_acts c i pid section = with_gates c (gates_with i (plain.offered_with (kept_on i c.gates) i pid section).left c.gates)

unfoldable pub plain_tells : Card → (input pid : ℕ) → Bytes → Said
plain_tells c i pid section = (plain.offered_with (kept_on i c.gates) i pid section).answer

unfoldable pub offer_acts : CardBy → (input pid : ℕ) → Bytes → CardBy
offer_acts c i pid section =
    let l : indexed.Offering = indexed.offered_with (kept_with i c) i pid section in
    record { card = with_gates c.card (gates_with i l.left.kept c.card.gates); index = l.left.index }

unfoldable pub offer_tells : CardBy → (input pid : ℕ) → Bytes → Said
offer_tells c i pid section = (indexed.offered_with (kept_with i c) i pid section).answer

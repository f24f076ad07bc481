-- A card on which everything was opened, its gate with an index (docs/RULES.md, "Gate", "Watched PIDs" and "Packets").
use Rattle.std.specs.Prelude.{◌≡◌, List, ℕ, ◌≤◌, length}
use Rattle.gate_state.specs.declared.Settings.{Settings}
use Rattle.gate_indexed.specs.Store.{Begun}
use Rattle.gate_pats_indexed.specs.Store.{opened_with}
use Rattle.ties_demux.specs.Opened.{OpenedRecord, OpenedStreams}
use Rattle.ties_demux_indexed.specs.Card.{CardBy}

-- what `gate_pats_indexed::open` answers and leaves where it is lent this card's rows and links, and some buckets and words
abbrev pub begun_on : Settings → (extra : List ℕ) → (slots cells : ℕ) → (buckets words : List ℕ) → CardBy → Begun
begun_on st extra slots cells buckets words c =
    opened_with st extra (length c.card.gates.keys) (length c.card.gates.changes) (length c.index.links) slots cells buckets words

-- by `gate_pats_indexed::open`, which answered 7, with some record, whose words it was lent
pub record OpenedGateBy (st : Settings) (c : CardBy) : Type 0 where
  pub extra : List ℕ
  pub slots : ℕ
  pub cells : ℕ
  pub buckets : List ℕ
  pub words : List ℕ
  pub seven : (begun_on st extra slots cells buckets words c).answer ≡ 7
  pub gate : c.card.gates.gate ≡ (begun_on st extra slots cells buckets words c).gate
  pub counters : c.card.gates.counters ≡ (begun_on st extra slots cells buckets words c).counters
  pub chains : c.index.buckets ≡ (begun_on st extra slots cells buckets words c).buckets

-- the records and the streams are opened as without an index
pub record OpenedCardBy (st : Settings) (c : CardBy) : Type 0 where
  pub gate : OpenedGateBy st c
  pub records : (i : ℕ) → OpenedRecord st (c.card.gates.watches i)
  pub streams : (i : ℕ) → OpenedStreams (c.card.inputs i)
  pub places : 384 ≤ length c.card.places

-- A card on which everything was opened (docs/RULES.md, "Gate", "Watched PIDs" and "Packets"): the gate, the watch record and the streams of each input.
use Rattle.std.specs.Prelude.{◌≡◌, List, ℕ, ◌≤◌, length}
use Rattle.section.specs.Facts.{Bytes as AllBytes}
use Rattle.gate_state.specs.declared.Settings.{Settings}
use Rattle.pats.specs.Store.{Record}
use Rattle.gate_pats.specs.Store.{opened_with, record_opened}
use Rattle.streams.specs.Store.{opened_of}
use Rattle.ties_demux.specs.Card.{Gates, Input, Card}

-- by `gate_pats::open`, which answered 7, with some record, whose words it was lent
pub record OpenedGate (st : Settings) (g : Gates) : Type 0 where
  pub extra : List ℕ
  pub slots : ℕ
  pub cells : ℕ
  pub words : List ℕ
  pub seven : (opened_with st extra (length g.keys) (length g.changes) slots cells words).answer ≡ 7
  pub gate : g.gate ≡ (opened_with st extra (length g.keys) (length g.changes) slots cells words).gate
  pub counters : g.counters ≡ (opened_with st extra (length g.keys) (length g.changes) slots cells words).counters

-- by `gate_pats::open_record`, or by `gate_pats::open`, which leaves the same words
pub record OpenedRecord (st : Settings) (r : Record) : Type 0 where
  pub extra : List ℕ
  pub before : List ℕ
  pub seven : (record_opened st extra (length r.slots) (length r.cells) before).answer ≡ 7
  pub words : r.words ≡ (record_opened st extra (length r.slots) (length r.cells) before).words

-- by `streams::open`
pub record OpenedStreams (l : Input) : Type 0 where
  pub count : ℕ
  pub before : List ℕ
  pub seven : (opened_of count before (length l.buffers)).answer ≡ 7
  pub streams : l.streams ≡ (opened_of count before (length l.buffers)).streams
  pub pids : l.pids ≡ (opened_of count before (length l.buffers)).pids
  pub bytes : AllBytes l.buffers

pub record OpenedCard (st : Settings) (c : Card) : Type 0 where
  pub gate : OpenedGate st c.gates
  pub records : (i : ℕ) → OpenedRecord st (c.gates.watches i)
  pub streams : (i : ℕ) → OpenedStreams (c.inputs i)
  pub places : 384 ≤ length c.places

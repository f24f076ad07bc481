-- Offers to a gate with an index as a host in another language makes them, one after another, on the words and slices that it lends.
use Rattle.std.specs.Prelude.{ℕ, ◌≡◌, List}
use Rattle.gate.specs.Rules.{Offer}
use Rattle.ring_index.specs.Store.{index_of}
use Rattle.pats.specs.Store.{Record}
use Rattle.gate_pats_indexed.specs.Store.{KeptBy, kept_by}
use Rattle.host_gate_words.specs.Words.{gate_of, counters_of}
use Rattle.host_indexed.specs.Calls.{gate_opened, gate_offered}

-- what the host keeps from call to call: the thirteen words of the gate and its counters, the slices of its rows and their index, and a watch record
pub record Lent : Type 0 where
  pub words : List ℕ
  pub keys : List ℕ
  pub changes : List ℕ
  pub buckets : List ℕ
  pub links : List ℕ
  pub watch : Record
  pub failure : List ℕ

-- `petrizolu_indexed_offer`: the number that is answered
unfoldable pub tells : Lent → Offer → ℕ
tells l o = (gate_offered l.words l.keys l.changes l.buckets l.links l.watch o.input o.pid o.section l.failure).answer

-- what stands in the words and slices then
unfoldable pub acts : Lent → Offer → Lent
acts l o =
    let r = gate_offered l.words l.keys l.changes l.buckets l.links l.watch o.input o.pid o.section l.failure in
    record { words = r.gate; keys = r.keys; changes = r.changes; buckets = r.buckets; links = r.links; watch = r.watch; failure = r.failure }

-- the gate, the counters and the index that the words and slices stand for, and the record
abbrev pub store_in : Lent → KeptBy
store_in l = kept_by (gate_of l.words) (counters_of l.words) l.keys l.changes (index_of l.buckets l.links) l.watch

-- as `petrizolu_indexed_open` leaves the words of the gate and of the watch, and the buckets, where it answers 7, whatever stood in them and in what else is
-- lent
pub record OpenedBy (l : Lent) : Type 0 where
  pub before : List ℕ
  pub capacity : ℕ
  pub settings : ℕ
  pub rule : ℕ
  pub extra : List ℕ
  pub old : List ℕ
  pub watched : List ℕ
  pub answer : (gate_opened before capacity settings rule extra l.keys l.changes old l.links l.watch.slots l.watch.cells watched).answer ≡ 7
  pub words : l.words ≡ (gate_opened before capacity settings rule extra l.keys l.changes old l.links l.watch.slots l.watch.cells watched).gate
  pub buckets : l.buckets ≡ (gate_opened before capacity settings rule extra l.keys l.changes old l.links l.watch.slots l.watch.cells watched).buckets
  pub watch : l.watch.words ≡ (gate_opened before capacity settings rule extra l.keys l.changes old l.links l.watch.slots l.watch.cells watched).watch

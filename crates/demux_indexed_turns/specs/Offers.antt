-- The sections that a packet finished, offered to the gate with an index (demux_turns/specs/Turns.antt), and what the functions ask.
use Rattle.std.specs.Prelude.{List, ℕ, length}
use Rattle.ring_index.specs.Store.{Index, Covers}
use Rattle.pats.specs.Store.{Record}
use Rattle.gate_pats_indexed.specs.Store.{KeptBy, kept_by}
use Rattle.demux_steady.specs.Steady.{Steady}
use Rattle.demux_indexed_turns.specs.Acts.{words_by, tells_by, acts_by}
use Rattle.demux_turns.specs.declared.Held.{Held}
use Rattle.demux_turns.specs.Turns.{OffersOf, offers_with, turned_by, turns_by, TurnsOf}

abbrev pub Offers : Type 0
Offers = OffersOf KeptBy

abbrev pub held_by : Held → List ℕ → List ℕ → Index → Record → List ℕ → List ℕ → Offers
held_by h keys changes x r pids places = offers_with (kept_by h.gate h.counters keys changes x r) pids places

abbrev pub turned : (packet buffers : List ℕ) → (input pid k : ℕ) → Offers → Offers
turned packet buffers input pid k o = turned_by words_by tells_by acts_by packet buffers input pid k o

abbrev pub offers_from : (packet buffers : List ℕ) → (input pid n k : ℕ) → Offers → Offers
offers_from packet buffers input pid n k o = turns_by words_by tells_by acts_by packet buffers input pid n k o

-- n more sections can be judged, and each row has a bucket and a link
pub record SteadyBy (n : ℕ) (s : KeptBy) : Type 0 where
  pub kept : Steady n s.kept
  pub covers : Covers s.kept.gate.ring (length s.index.buckets) (length s.index.links)

abbrev pub Turns : Offers → ℕ → Type 0
Turns o n = TurnsOf SteadyBy o n

-- The same over the gate without an index, and what the functions ask.
use Rattle.std.specs.Prelude.{List, ℕ, ◌+◌, ◌*◌, ◌≤◌, ◌<◌, length}
use Rattle.gate_state.specs.declared.Gate.{Gate}
use Rattle.pats.specs.Store.{Record}
use Rattle.gate_pats.specs.Store.{Kept, kept_of, RecordReady}
use Rattle.demux_steady.specs.Steady.{words_in, tells, acts, Steady}
use Rattle.demux_turns.specs.declared.Held.{Held}
use Rattle.demux_turns.specs.Turns.{OffersOf, offers_with, turned_by, turns_by, TurnsOf}

abbrev pub Offers : Type 0
Offers = OffersOf Kept

abbrev pub held_of : Held → List ℕ → List ℕ → Record → List ℕ → List ℕ → Offers
held_of h keys changes r pids places = offers_with (kept_of h.gate h.counters keys changes r) pids places

abbrev pub turned : (packet buffers : List ℕ) → (input pid k : ℕ) → Offers → Offers
turned packet buffers input pid k o = turned_by words_in tells acts packet buffers input pid k o

abbrev pub offers_from : (packet buffers : List ℕ) → (input pid n k : ℕ) → Offers → Offers
offers_from packet buffers input pid n k o = turns_by words_in tells acts packet buffers input pid n k o

-- ---- what the functions ask

pub record OfferOk (g : Gate) (r : Record) (pids : List ℕ) : Type 0 where
  pub ready : RecordReady g.follow r
  pub words : 128 ≤ length r.words
  pub long : 32768 ≤ length pids

pub record TurnOk (g : Gate) (r : Record) (pids places : List ℕ) (k : ℕ) : Type 0 where
  pub offer : OfferOk g r pids
  pub listed : k * 6 + 5 < length places

abbrev pub Turns : Offers → ℕ → Type 0
Turns o n = TurnsOf Steady o n

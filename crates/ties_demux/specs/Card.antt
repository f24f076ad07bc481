-- The memory of a card: the gate, which all inputs share; for each input a watch record, streams, PID words and section buffers; and the places. What it stands
-- for, and its calls (docs/RULES.md, "Inputs" and "Packets").
use Rattle.std.specs.Prelude.{◌≡◌, Bool, true, cond, List, [], ◌∷◌, ℕ, zero, suc, ◌+◌, ◌*◌, ◌/◌, ◌%◌, ◌<◌, eqb, length, get_or}
use Rattle.laws.specs.Bits.{has_bit}
use Rattle.section.specs.Facts.{Bytes as AllBytes}
use Rattle.transport.specs.Rules.{Bytes}
use Rattle.transport.specs.Receiver as transport
use Rattle.counters.specs.declared.Counters.{Counters}
use Rattle.gate_state.specs.State.{Said}
use Rattle.gate_state.specs.declared.Gate.{Gate}
use Rattle.pats.specs.Store.{Record}
use Rattle.gate_pats.specs.Store.{Kept, kept_of}
use Rattle.streams.specs.declared.Streams.{Streams}
use Rattle.streams.specs.Store.{held_buffer}
use Rattle.ties_streams.specs.View.{held_by, Apart}
use Rattle.demux_state.specs.State as feeding
use Rattle.demux_state.specs.State.{finished_of, any_near, is_near}
use Rattle.demux_places.specs.declared.Outcome.{Outcome}
use Rattle.demux_places.specs.Places.{place_at, bytes_at, outcome}
use Rattle.demux_judge.specs.Verdicts.{pat_count, Wholes}
use Rattle.demux_steady.specs.Steady as steady
use Rattle.demux_store.specs.Store.{Store, Left, store_of, fed}
use Rattle.ties_demux.specs.Rules.{Held, on_card}

-- what the gate keeps
pub record Gates : Type 0 where
  pub gate : Gate
  pub counters : Counters
  pub keys : List ℕ
  pub changes : List ℕ
  pub watches : (input : ℕ) → Record

-- what is lent for the packets of one input
pub record Input : Type 0 where
  pub streams : Streams
  pub pids : List ℕ
  pub buffers : List ℕ

pub record Card : Type 0 where
  pub gates : Gates
  pub inputs : (input : ℕ) → Input
  pub places : List ℕ

-- ---- the gate of an input

abbrev pub kept_on : (input : ℕ) → Gates → Kept
kept_on i g = kept_of g.gate g.counters g.keys g.changes (g.watches i)

abbrev pub gates_with : (input : ℕ) → Kept → Gates → Gates
gates_with i k g = record { gate = k.gate; counters = k.counters; keys = k.keys; changes = k.changes; watches = λ j. cond (eqb j i) k.watch (g.watches j) }

-- the gate as the rules ask it, by the number of a PID on the card
abbrev pub watched_on : Gates → ℕ → Bool
watched_on g n = has_bit (g.watches (n / 8192)).words (n % 8192)

abbrev pub tells_on : Gates → ℕ → Bytes → Said
tells_on g n section = steady.tells (kept_on (n / 8192) g) (n / 8192) (n % 8192) section

abbrev pub acts_on : Gates → ℕ → Bytes → Gates
acts_on g n section = gates_with (n / 8192) (steady.acts (kept_on (n / 8192) g) (n / 8192) (n % 8192) section) g

abbrev pub gate_near : Gates → Bool
gate_near g = any_near g.counters

abbrev pub pats_near : Gates → (input : ℕ) → Bool
pats_near g i = is_near (pat_count g.gate.follow (g.watches i).words)

-- ---- a call

-- what a call on input i is lent
abbrev pub lent_on : (input : ℕ) → Card → Store
lent_on i c = store_of (kept_on i c.gates) (c.inputs i).streams (c.inputs i).pids (c.inputs i).buffers c.places

abbrev pub input_of : Store → Input
input_of s = record { streams = s.streams; pids = s.pids; buffers = s.buffers }

-- the card when the call is over
abbrev pub back_from : (input : ℕ) → Store → Card → Card
back_from i s c = record { gates = gates_with i s.gate c.gates; inputs = λ j. cond (eqb j i) (input_of s) (c.inputs j); places = s.places }

abbrev pub call_on : Card → (input : ℕ) → Bytes → Left
call_on c i packet = fed (lent_on i c) i packet

unfoldable pub card_acts : Card → (input : ℕ) → Bytes → Card
card_acts c i packet = back_from i (call_on c i packet).store c

-- ---- what a call tells

-- the bytes that the first n places name, and the answers in them, from place k on
unfoldable pub sections_told : (packet buffers places : List ℕ) → (n k : ℕ) → List Bytes
sections_told packet buffers places zero k = []
sections_told packet buffers places (suc n) k = bytes_at packet buffers (place_at places k) ∷ sections_told packet buffers places n (k + 1)

unfoldable pub outcomes_told : (places : List ℕ) → (n k : ℕ) → List Outcome
outcomes_told places zero k = []
outcomes_told places (suc n) k = outcome (get_or places (k * 6) 0) (get_or places (k * 6 + 1) 0) (get_or places (k * 6 + 2) 0) ∷ outcomes_told places n (k + 1)

pub record Told : Type 0 where
  pub answer : feeding.Said
  pub sections : List Bytes
  pub outcomes : List Outcome

abbrev pub told_by : Left → Bytes → Told
told_by l packet =
    record {
      answer = l.answer;
      sections = sections_told packet l.store.buffers l.store.places (finished_of l.answer) 0;
      outcomes = outcomes_told l.store.places (finished_of l.answer) 0;
    }

unfoldable pub card_tells : Card → (input : ℕ) → Bytes → Told
card_tells c i packet = told_by (call_on c i packet) packet

-- ---- what a card stands for

abbrev pub shown_of : Input → transport.Streams
shown_of l = held_by l.streams.count l.pids l.buffers

abbrev pub shown_by : Card → Held Gates
shown_by c = record { held = record { streams = λ n. shown_of (c.inputs (n / 8192)) (n % 8192); world = c.gates }; counts = λ i. (c.inputs i).streams }

-- ---- what every history has

-- of an input: all is whole, no two PIDs hold one buffer, every PID that holds one is watched
pub record Stands (g : Gates) (i : ℕ) (l : Input) (places : List ℕ) : Type 0 where
  pub whole : Wholes g.gate l.streams (length g.keys) (length g.changes) (g.watches i) (length l.pids) (length l.buffers) (length places)
  pub apart : Apart l.streams.count l.pids
  pub bytes : AllBytes l.buffers
  pub watched : (p : ℕ) → p < 8192 → held_buffer l.streams.count l.pids p < l.streams.count → has_bit (g.watches i).words p ≡ true

abbrev pub AllStand : Card → Type 0
AllStand c = (i : ℕ) → Stands c.gates i (c.inputs i) c.places

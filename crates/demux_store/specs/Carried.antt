-- What a packet that is counted leaves, for every content of the lent slices (docs/RULES.md, "Packets"). Open in the gate: what it keeps (S), the words of its
-- watch, and what it answers and keeps after a section. `cond test a b` is a where the test is true, else b.
use Rattle.std.specs.Prelude.{cond, List, ℕ, eqb}
use Rattle.gate_state.specs.State.{Said}
use Rattle.streams.specs.Store.{with_words, pids_read, buffers_read, places_read, count_read, InWords}
use Rattle.streams.specs.declared.Streams.{Streams}
use Rattle.demux_state.specs.State as feeding
use Rattle.demux_state.specs.State.{plain, finished, packet_counted, malformed_counted, CanFeed}
use Rattle.demux_packets.specs.declared.Reading.{Reading}
use Rattle.demux_packets.specs.declared.Plan.{Plan}
use Rattle.demux_packets.specs.declared.Plan.TheVariants.{Malformed, Nothing, Unwatched, NoBuffer, Read}
use Rattle.demux_packets.specs.Plans.{no_words, Reads}
use Rattle.demux_turns.specs.Turns.{OffersOf, offers_with, turns_by}

-- the gate, and of one input its streams, the words of its PIDs, its buffers; and the places
pub record StoreOf (S : Type 0) : Type 0 where
  pub gate : S
  pub streams : Streams
  pub pids : List ℕ
  pub buffers : List ℕ
  pub places : List ℕ

abbrev pub store_of : {S : Type 0} → S → Streams → List ℕ → List ℕ → List ℕ → StoreOf S
store_of g s pids buffers places = record { gate = g; streams = s; pids = pids; buffers = buffers; places = places }

-- an answer, and what is left
pub record LeftOf (S : Type 0) : Type 0 where
  pub answer : feeding.Said
  pub store : StoreOf S

abbrev pub left : {S : Type 0} → feeding.Said → StoreOf S → LeftOf S
left a s = record { answer = a; store = s }

-- what only counts
abbrev pub with_streams : {S : Type 0} → StoreOf S → Streams → StoreOf S
with_streams s t = store_of s.gate t s.pids s.buffers s.places

-- the words of a PID that is not watched become 0
abbrev pub forgotten : {S : Type 0} → StoreOf S → List ℕ → StoreOf S
forgotten s pids = store_of s.gate (packet_counted s.streams) pids s.buffers s.places

-- what an answer other than 29 counts: 30 packets and malformed, 43 packets, every other nothing
abbrev pub counted_by : (answer : ℕ) → Streams → Streams
counted_by answer s = cond (eqb answer 30) (malformed_counted s) (cond (eqb answer 43) (packet_counted s) s)

module _ {S : Type 0} (words_in : S → List ℕ) (tells : S → (input pid : ℕ) → List ℕ → Said) (acts : S → (input pid : ℕ) → List ℕ → S) where
  -- the payload is read whole, then each section that it finished is offered
  unfoldable pub read_by : StoreOf S → (input : ℕ) → List ℕ → Reading → LeftOf S
  read_by s input packet r =
      let n : ℕ = count_read r.number r.fresh s.pids s.buffers r.load packet in
      let buffers : List ℕ = buffers_read r.number r.fresh s.pids s.buffers r.load packet in
      let start : OffersOf S =
      offers_with s.gate (pids_read r.number r.fresh s.pids s.buffers r.load packet)
      (places_read r.number r.fresh s.pids s.buffers r.load packet s.places) in
      let o : OffersOf S = turns_by words_in tells acts packet buffers input r.load.pid.0 n 0 start in
      left (finished n) (store_of o.gate (packet_counted s.streams) o.pids buffers o.places)

  -- 30, 29 with 0, 43, or 29 with the sections that were finished
  unfoldable pub planned_by : StoreOf S → (input : ℕ) → List ℕ → Plan → LeftOf S
  planned_by s input packet Malformed = left (plain 30) (with_streams s (malformed_counted s.streams))
  planned_by s input packet Nothing = left (finished 0) (with_streams s (packet_counted s.streams))
  planned_by s input packet (Unwatched pid) = left (finished 0) (forgotten s (with_words s.pids pid no_words))
  planned_by s input packet NoBuffer = left (plain 43) (with_streams s (packet_counted s.streams))
  planned_by s input packet (Read r) = read_by s input packet r

-- ---- what the functions ask; of the gate, that it is ready for the sections of a packet

pub record ReadsWith {S : Type 0} (ready : S → Type 0) (s : StoreOf S) (packet : List ℕ) (r : Reading) : Type 0 where
  pub reads : Reads s.pids s.buffers s.places r packet
  pub steady : ready s.gate
  pub counts : CanFeed s.streams

abbrev pub PlanWith : {S : Type 0} → (S → Type 0) → StoreOf S → List ℕ → Plan → Type 0
PlanWith ready s packet Malformed = Unit {0}
PlanWith ready s packet Nothing = Unit {0}
PlanWith ready s packet (Unwatched pid) = InWords s.pids pid
PlanWith ready s packet NoBuffer = Unit {0}
PlanWith ready s packet (Read r) = ReadsWith ready s packet r

pub record TakesWith {S : Type 0} (ready : S → Type 0) (s : StoreOf S) (packet : List ℕ) (p : Plan) : Type 0 where
  pub counts : CanFeed s.streams
  pub plan : PlanWith ready s packet p

-- A packet that is counted, over the gate with an index (demux_store/specs/Carried.antt).
use Rattle.std.specs.Prelude.{List, ℕ}
use Rattle.ring_index.specs.Store.{Index}
use Rattle.pats.specs.Store.{Record}
use Rattle.gate_pats_indexed.specs.Store.{KeptBy, kept_by}
use Rattle.streams.specs.declared.Streams.{Streams}
use Rattle.demux_state.specs.State.{said_of}
use Rattle.demux_state.specs.declared.Fed.{Fed}
use Rattle.demux_packets.specs.declared.Reading.{Reading}
use Rattle.demux_packets.specs.declared.Plan.{Plan}
use Rattle.demux_store.specs.Carried.{StoreOf, LeftOf, left, read_by, planned_by, ReadsWith, TakesWith}
use Rattle.demux_store.specs.Carried as carried
use Rattle.demux_indexed_turns.specs.Acts.{words_by, tells_by, acts_by}
use Rattle.demux_indexed_turns.specs.Offers.{SteadyBy}

abbrev pub Store : Type 0
Store = StoreOf KeptBy

abbrev pub Left : Type 0
Left = LeftOf KeptBy

abbrev pub store_of : KeptBy → Streams → List ℕ → List ℕ → List ℕ → Store
store_of g s pids buffers places = carried.store_of g s pids buffers places

-- what a call handed back, with the slices as it left them
abbrev pub fed_by : Fed → List ℕ → List ℕ → Index → Record → List ℕ → List ℕ → List ℕ → Left
fed_by r keys changes x record' pids buffers places = left (said_of r.answer) (store_of (kept_by r.gate r.counters keys changes x record') r.streams pids buffers places)

abbrev pub read_in : Store → (input : ℕ) → List ℕ → Reading → Left
read_in s input packet r = read_by words_by tells_by acts_by s input packet r

abbrev pub planned_in : Store → (input : ℕ) → List ℕ → Plan → Left
planned_in s input packet p = planned_by words_by tells_by acts_by s input packet p

-- ---- what the functions ask

abbrev pub ReadsOk : Store → List ℕ → Reading → Type 0
ReadsOk s packet r = ReadsWith (SteadyBy 64) s packet r

abbrev pub TakesOk : Store → List ℕ → Plan → Type 0
TakesOk s packet p = TakesWith (SteadyBy 64) s packet p

-- A packet over the gate without an index: the one answer and the one content that are left, whatever is given (docs/RULES.md, "Packets").
use Rattle.std.specs.Prelude.{List, ℕ, length}
use Rattle.answers.specs.Answers.{refusal_no}
use Rattle.pats.specs.Store.{Record}
use Rattle.gate_pats.specs.Store.{Kept, kept_of}
use Rattle.streams.specs.declared.Streams.{Streams}
use Rattle.demux_state.specs.State.{plain, said_of}
use Rattle.demux_state.specs.declared.Fed.{Fed}
use Rattle.demux_packets.specs.declared.Reading.{Reading}
use Rattle.demux_packets.specs.declared.Plan.{Plan}
use Rattle.demux_judge.specs.Verdicts.{Verdict}
use Rattle.std.specs.Prelude.{Err, Ok}
use Rattle.demux_judge.specs.Verdicts.{verdict_of}
use Rattle.demux_steady.specs.Steady.{words_in, tells, acts, Steady}
use Rattle.demux_store.specs.Carried.{StoreOf, LeftOf, left, read_by, planned_by, ReadsWith, TakesWith}
use Rattle.demux_store.specs.Carried as carried

abbrev pub Store : Type 0
Store = StoreOf Kept

abbrev pub Left : Type 0
Left = LeftOf Kept

abbrev pub store_of : Kept → Streams → List ℕ → List ℕ → List ℕ → Store
store_of g s pids buffers places = carried.store_of g s pids buffers places

-- what a call handed back, with the slices as it left them
abbrev pub fed_by : Fed → List ℕ → List ℕ → Record → List ℕ → List ℕ → List ℕ → Left
fed_by r keys changes record' pids buffers places = left (said_of r.answer) (store_of (kept_of r.gate r.counters keys changes record') r.streams pids buffers places)

abbrev pub read_in : Store → (input : ℕ) → List ℕ → Reading → Left
read_in s input packet r = read_by words_in tells acts s input packet r

abbrev pub planned_in : Store → (input : ℕ) → List ℕ → Plan → Left
planned_in s input packet p = planned_by words_in tells acts s input packet p

-- a refusal leaves all as it was
unfoldable pub judged_in : Store → (input : ℕ) → List ℕ → Verdict → Left
judged_in s input packet (Err r) = left (plain (refusal_no r)) s
judged_in s input packet (Ok p) = planned_in s input packet p

abbrev pub verdict_in : Store → (input : ℕ) → List ℕ → Verdict
verdict_in s input packet =
    verdict_of s.gate.gate s.gate.counters s.streams (length s.gate.keys) (length s.gate.changes) s.gate.watch s.pids (length s.buffers) input packet (length s.places)

-- every store, input and packet: 10, 11, 37, then 30, 43 or 29
unfoldable pub fed : Store → (input : ℕ) → List ℕ → Left
fed s input packet = judged_in s input packet (verdict_in s input packet)

-- ---- what the functions ask

abbrev pub ReadsOk : Store → List ℕ → Reading → Type 0
ReadsOk s packet r = ReadsWith (Steady 64) s packet r

abbrev pub TakesOk : Store → List ℕ → Plan → Type 0
TakesOk s packet p = TakesWith (Steady 64) s packet p

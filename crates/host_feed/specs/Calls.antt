-- What feeding a packet answers and leaves in the words that a host lends: what demux/specs/Store.antt says of the gate and the streams that the words hold.
use Rattle.std.specs.Prelude.{ℕ, List}
use Rattle.pats.specs.Store.{Record}
use Rattle.gate_pats.specs.Store.{kept_of}
use Rattle.demux_state.specs.State.{number_of}
use Rattle.demux_store.specs.Store.{Store, Left, store_of, fed}
use Rattle.host_words.specs.Inputs.{input_number}
use Rattle.host_gate_words.specs.Words.{gate_of, counters_of}
use Rattle.host_gate_words.specs.Words as gate
use Rattle.host_streams.specs.Words.{streams_of, finished_after}
use Rattle.host_streams.specs.Words as streams

-- an answer, the gate's thirteen words, the three of the streams, the rows, the watch record, the PID words, the buffers, the places, and how many sections were finished
pub record FeedLeft : Type 0 where
  pub answer : ℕ
  pub gate : List ℕ
  pub streams : List ℕ
  pub keys : List ℕ
  pub changes : List ℕ
  pub watch : Record
  pub pids : List ℕ
  pub buffers : List ℕ
  pub places : List ℕ
  pub finished : List ℕ

abbrev pub left : ℕ → List ℕ → List ℕ → List ℕ → List ℕ → Record → List ℕ → List ℕ → List ℕ → List ℕ → FeedLeft
left answer g s keys changes watch pids buffers places n =
    record { answer = answer; gate = g; streams = s; keys = keys; changes = changes; watch = watch; pids = pids; buffers = buffers; places = places; finished = n }

-- of the gate words 4 to 12 are written, of the streams words 1 and 2
abbrev pub left_as : List ℕ → List ℕ → List ℕ → Left → FeedLeft
left_as g s n l =
    left (number_of l.answer)
    (gate.words_after g l.store.gate.gate l.store.gate.counters)
    (streams.words_after s l.store.streams)
    l.store.gate.keys
    l.store.gate.changes
    l.store.gate.watch
    l.store.pids
    l.store.buffers
    l.store.places
    (finished_after l.answer n)

-- what the words hold
abbrev pub store_in : List ℕ → List ℕ → List ℕ → List ℕ → Record → List ℕ → List ℕ → List ℕ → Store
store_in g s keys changes watch pids buffers places = store_of (kept_of (gate_of g) (counters_of g) keys changes watch) (streams_of s) pids buffers places

unfoldable pub packet_fed : List ℕ → List ℕ → List ℕ → List ℕ → Record → List ℕ → List ℕ → (input : ℕ) → List ℕ → List ℕ → List ℕ → FeedLeft
packet_fed g s keys changes watch pids buffers input packet places n = left_as g s n (fed (store_in g s keys changes watch pids buffers places) (input_number input) packet)

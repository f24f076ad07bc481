-- What opening the streams of one input answers and leaves in the words that a host lends: what streams/specs/Store.antt says.
use Rattle.std.specs.Prelude.{ℕ, List, cond, length, eqb}
use Rattle.streams.specs.Store.{Opening, opened_of}
use Rattle.host_streams.specs.Words.{words_of}

-- an answer, the three words of the streams, and the words of the PIDs
pub record StreamsBegun : Type 0 where
  pub answer : ℕ
  pub streams : List ℕ
  pub pids : List ℕ

abbrev pub begun : ℕ → List ℕ → List ℕ → StreamsBegun
begun answer streams pids = record { answer = answer; streams = streams; pids = pids }

-- 7 writes all three words; a refused opening leaves them as they were
abbrev pub begun_as : List ℕ → Opening → StreamsBegun
begun_as streams o = begun o.answer (cond (eqb o.answer 7) (words_of o.streams) streams) o.pids

unfoldable pub streams_opened : List ℕ → ℕ → List ℕ → List ℕ → StreamsBegun
streams_opened streams count pids buffers = begun_as streams (opened_of count pids (length buffers))

-- What passing over packets leaves in the words that a host lends: what demux_pass/specs/Store.antt says of the gate and the streams that the words hold.
use Rattle.std.specs.Prelude.{ℕ, ◌/◌, List, length}
use Rattle.pats.specs.Store.{Record}
use Rattle.demux_pass.specs.Passing.{PassingOf}
use Rattle.demux_pass.specs.Store.{passing}
use Rattle.host_words.specs.Inputs.{input_number}
use Rattle.host_streams.specs.Words.{words_after}
use Rattle.host_feed.specs.Calls.{store_in}

-- how many packets, the three words of the streams, and the PID words; nothing else that is lent is written
pub record PassLeft : Type 0 where
  pub number : ℕ
  pub streams : List ℕ
  pub pids : List ℕ

abbrev pub left : ℕ → List ℕ → List ℕ → PassLeft
left number s pids = record { number = number; streams = s; pids = pids }

abbrev pub left_as : {S : Type 0} → List ℕ → PassingOf S → PassLeft
left_as s p = left p.number (words_after s p.store.streams) p.store.pids

-- of the packets of 188 bytes those before the first that is not passed over, each fed
unfoldable pub packets_passed : List ℕ → List ℕ → List ℕ → List ℕ → Record → List ℕ → List ℕ → (input : ℕ) → List ℕ → List ℕ → PassLeft
packets_passed g s keys changes watch pids buffers input packets places = left_as s (passing (length packets / 188) (store_in g s keys changes watch pids buffers places) (input_number input) packets)

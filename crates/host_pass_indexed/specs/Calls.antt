-- What passing over packets leaves in the words that a host lends, through the gate with an index: what demux_indexed_pass/specs/Store.antt says.
use Rattle.std.specs.Prelude.{ℕ, ◌/◌, List, length}
use Rattle.pats.specs.Store.{Record}
use Rattle.demux_indexed_pass.specs.Store.{passing}
use Rattle.host_words.specs.Inputs.{input_number}
use Rattle.host_feed_indexed_calls.specs.Calls.{store_in}
use Rattle.host_pass.specs.Calls.{PassLeft, left_as}

-- of the packets of 188 bytes those before the first that is not passed over, each fed
unfoldable pub packets_passed : List ℕ → List ℕ → List ℕ → List ℕ → List ℕ → List ℕ → Record → List ℕ → List ℕ → (input : ℕ) → List ℕ → List ℕ → PassLeft
packets_passed g s keys changes buckets links watch pids buffers input packets places = left_as s (passing (length packets / 188) (store_in g s keys changes buckets links watch pids buffers places) (input_number input) packets)

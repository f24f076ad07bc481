-- Packets passed over, over the gate with an index: how many, and the one content that is left, whatever is given (docs/RULES.md, "Packets").
use Rattle.std.specs.Prelude.{List, ℕ}
use Rattle.gate_pats_indexed.specs.Store.{KeptBy}
use Rattle.demux_indexed_store.specs.Carried.{Store, store_of}
use Rattle.demux_indexed_store.specs.Store.{verdict_in, fed}
use Rattle.demux_pass.specs.declared.Passed.{Passed}
use Rattle.demux_pass.specs.Passing.{PassingOf, gone, passing_by}

abbrev pub Passing : Type 0
Passing = PassingOf KeptBy

abbrev pub passed_by : Passed → KeptBy → List ℕ → List ℕ → List ℕ → Passing
passed_by r kept pids buffers places = gone r.number (store_of kept r.streams pids buffers places)

-- of the first `most` packets those before the first that is not passed over, each fed
abbrev pub passing : (most : ℕ) → Store → (input : ℕ) → List ℕ → Passing
passing most s input packets = passing_by verdict_in fed most s input packets

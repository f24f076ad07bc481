-- What the gate with an index and a watch record answers and keeps, as functions of what it keeps.
use Rattle.std.specs.Prelude.{List, ℕ}
use Rattle.gate_state.specs.State.{Said}
use Rattle.gate_pats_indexed.specs.Store.{KeptBy, taken_by}

abbrev pub words_by : KeptBy → List ℕ
words_by s = s.kept.watch.words

abbrev pub tells_by : KeptBy → (input pid : ℕ) → List ℕ → Said
tells_by s input pid section = (taken_by s input pid section).answer

abbrev pub acts_by : KeptBy → (input pid : ℕ) → List ℕ → KeptBy
acts_by s input pid section = (taken_by s input pid section).left

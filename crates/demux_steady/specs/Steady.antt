-- What the gate with a watch record answers and keeps, as functions of what it keeps, and when n more sections can be judged.
use Rattle.std.specs.Prelude.{◌≡◌, true, List, ℕ, ◌+◌, ◌^◌, ◌<◌}
use Rattle.gate_state.specs.State.{Said, by_tables}
use Rattle.gate.specs.Store.{is_whole}
use Rattle.pats.specs.Store.{pat_most, pats_whole}
use Rattle.gate_pats.specs.Store.{Kept, sections_in, taken_with}
use Rattle.demux_state.specs.State.{Spare}

abbrev pub words_in : Kept → List ℕ
words_in s = s.watch.words

abbrev pub tells : Kept → (input pid : ℕ) → List ℕ → Said
tells s input pid section = (taken_with s input pid section).answer

abbrev pub acts : Kept → (input pid : ℕ) → List ℕ → Kept
acts s input pid section = (taken_with s input pid section).left

-- the gate is whole, the record too where complete PATs are followed, and each counter has room for n more
pub record Steady (n : ℕ) (s : Kept) : Type 0 where
  pub whole : is_whole (sections_in s) ≡ true
  pub spare : Spare n s.counters
  pub pats : by_tables s.gate.follow ≡ true → pats_whole s.watch ≡ true
  pub evictions : by_tables s.gate.follow ≡ true → pat_most s.watch.words + n < 2 ^ 64

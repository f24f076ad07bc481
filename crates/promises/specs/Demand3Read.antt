-- Demand 3 (Demand3.antt has its words) of what a host reads out of the lent memory: the row that a 5 tells of, its head, and its sections one after another,
-- as `next_section` of the crate sets and `section_part` of the crate readers are proved to give them.
-- Assumes nothing.
use Rattle.std.specs.Prelude.{ℕ, suc, ◌≤◌, ◌≡◌, List, take, Ok, false}
use Rattle.laws.specs.Runs.{answers, store_after, At, Without}
use Rattle.rules_sets.specs.Rules.{Whole}
use Rattle.rows.specs.Rows.{key_at, version_of, last_of}
use Rattle.reading.specs.Reading.{Reads}
use Rattle.sets_settle.specs.Settle.{Handed, Told, handed}
use Rattle.sets.specs.Store.{next_of}
use Rattle.sets.specs.History.{called}
use Rattle.ties_sets.specs.View.{key_shown}
use Rattle.promises.specs.Demand3.{Collector, StartsEmpty, EqualCellSize, LimitNoLarger, clears, made, acts, Calls, SectionsOfBytes, RefusesNoneAsConflicting, RefusesNoneForItsStore}

-- the collector with its memory as call number t left it
abbrev pub after : Collector → Calls → ℕ → Collector
after s calls t = store_after acts s (take (suc t) calls)

-- call number t was answered 5 and told this row
abbrev pub TellsRow : Collector → Calls → ℕ → (row : ℕ) → Type 0
TellsRow s calls t row = (h : Handed) × At (answers (λ c i. (called c (made i)).told) acts s calls) t (handed h) × (h.row ≡ row)

-- after call number t a host reads this set out of the row that it was told of: key, version and last_section_number from the row's head; and asking for
-- the next section from 0 on, and then behind each number, the sections' bytes in order, each a part of the cells, until the answer is no
pub record ReadsOut (s : Collector) (calls : Calls) (t : ℕ) (set : Whole) : Type 0 where
  pub row : ℕ
  pub told : TellsRow s calls t row
  pub key : key_shown (key_at (after s calls t).heads row) ≡ set.key
  pub version : version_of (after s calls t).heads row ≡ set.version
  pub last : last_of (after s calls t).heads row ≡ set.last
  pub sections : Reads (next_of (after s calls t) row) (after s calls t).cells 0 set.sections (Ok false)

-- ".. has, since the last clear, been" read "out of the larger at that section or an earlier one, byte for byte"
pub record ReadOutSinceTheLastClear (s : Collector) (calls : Calls) (t : ℕ) (set : Whole) : Type 0 where
  pub at : ℕ
  pub early : at ≤ t
  pub read : ReadsOut s calls at set
  pub since : Without clears calls at t

abbrev pub Demand3Read : Type 0
Demand3Read = (smaller larger : Collector) → StartsEmpty smaller → StartsEmpty larger → EqualCellSize smaller larger → LimitNoLarger smaller larger
    → (calls : Calls) → SectionsOfBytes calls
    → RefusesNoneAsConflicting larger calls → RefusesNoneForItsStore smaller calls → RefusesNoneForItsStore larger calls
    → (t : ℕ) (set : Whole) → ReadsOut smaller calls t set → ReadOutSinceTheLastClear larger calls t set

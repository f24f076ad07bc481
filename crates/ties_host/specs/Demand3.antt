-- Demand 3 over the C calls of a host (promises/specs/Demand3.antt has its words): two set collectors that `petrizolu_sets_open` opened get the same
-- `petrizolu_sets_push`, each with its PID, and `petrizolu_sets_clear`; what a host reads with `petrizolu_sets_next` out of the row that the smaller answered 5 with, it has read out of
-- the larger's at that call or an earlier one, since the last clear, byte for byte.
-- Assumes nothing.
use Rattle.std.specs.Prelude.{ℕ, suc, ◌+◌, ◌≤◌, ◌≡◌, ◌≢◌, List, [], ◌∷◌, take}
use Rattle.laws.specs.Runs.{answers, store_after, At, Never, Without}
use Rattle.rules_sets.specs.Rules.{Whole}
use Rattle.cells.specs.Cells.{part_of}
use Rattle.rows.specs.Rows.{key_at, version_of, last_of}
use Rattle.sets.specs.History.{Bytes as OfBytes}
use Rattle.ties_sets.specs.View.{key_shown}
use Rattle.host_words.specs.Answers.{Words, at}
use Rattle.host_sets.specs.Calls.{sets_next}
use Rattle.ties_host.specs.Sets.{Lent, Call, push, clear, tells, acts, call_of, OpenedBy}

-- the numbers that are answered where each call finds the words and slices as the call before it left them
abbrev pub answers_of : Lent → List Call → List ℕ
answers_of l calls = answers tells acts l calls

-- the words and slices as call number t left them
abbrev pub after : Lent → List Call → ℕ → Lent
after l calls t = store_after acts l (take (suc t) calls)

-- a section is a list of bytes
abbrev pub SectionsOfBytes : List Call → Type 0
SectionsOfBytes calls = (t : ℕ) (c : Call) → At calls t c → OfBytes (call_of c)

-- a section comes with its PID: not with 0xFFFFFFFF, which stands for none
abbrev pub WithPid : Call → Type 0
WithPid (push input pid section) = pid ≢ 0xFFFF_FFFF
WithPid clear = Unit {0}

abbrev pub SectionsWithPids : List Call → Type 0
SectionsWithPids calls = (t : ℕ) (c : Call) → At calls t c → WithPid c

-- "the larger refuses no section as conflicting"
abbrev pub RefusesNoneAsConflicting : Lent → List Call → Type 0
RefusesNoneAsConflicting l calls = Never 22 (answers_of l calls)

-- "neither refuses for want of cells, a full counter or a store not whole"
pub record RefusesNoneForItsStore (l : Lent) (calls : List Call) : Type 0 where
  pub cells : Never 21 (answers_of l calls)
  pub counter : Never 11 (answers_of l calls)
  pub wholeness : Never 10 (answers_of l calls)

-- what `petrizolu_sets_next` answers and leaves in the three words of the section
abbrev pub asked : Lent → (row : ℕ) → (section : List ℕ) → (from : ℕ) → Words
asked l row section from = sets_next l.words l.heads l.slots l.cells row from section

-- the parts that a host reads, from a number on: after 8 it takes the part that the words tell of and asks behind that number; 9 ends it. What stood in
-- the three words before a question does not matter
pub data ReadsBy (l : Lent) (row : ℕ) : ℕ → List (List ℕ) → Type 0 where
  ends : {from : ℕ} (section : List ℕ) → (asked l row section from).answer ≡ 9 → ReadsBy l row from []
  goes_on : {from : ℕ} {parts : List (List ℕ)} (section : List ℕ) → (asked l row section from).answer ≡ 8
      → ReadsBy l row (at (asked l row section from).now 0 + 1) parts
      → ReadsBy l row from (part_of l.cells (at (asked l row section from).now 1) (at (asked l row section from).now 2) ∷ parts)

-- the row that call number t told of, where it answered 5
abbrev pub row_told : Lent → List Call → ℕ → ℕ
row_told l calls t = at (after l calls t).row 0

-- call number t answered 5, and of the row that it told of the host reads this set: key, version and last_section_number from the row's head, and the
-- sections' bytes in order
pub record ReadsOut (l : Lent) (calls : List Call) (t : ℕ) (set : Whole) : Type 0 where
  pub told : At (answers_of l calls) t 5
  pub key : key_shown (key_at (after l calls t).heads (row_told l calls t)) ≡ set.key
  pub version : version_of (after l calls t).heads (row_told l calls t) ≡ set.version
  pub last : last_of (after l calls t).heads (row_told l calls t) ≡ set.last
  pub sections : ReadsBy (after l calls t) (row_told l calls t) 0 set.sections

pub record ReadOutSinceTheLastClear (l : Lent) (calls : List Call) (t : ℕ) (set : Whole) : Type 0 where
  pub number : ℕ
  pub early : number ≤ t
  pub read : ReadsOut l calls number set
  pub since : Without clear calls number t

-- word 1 is the cell size, word 0 the key limit
abbrev pub Demand3Host : Type 0
Demand3Host = (smaller larger : Lent) → OpenedBy smaller → OpenedBy larger → at smaller.words 1 ≡ at larger.words 1 → at smaller.words 0 ≤ at larger.words 0
    → (calls : List Call) → SectionsOfBytes calls → SectionsWithPids calls
    → RefusesNoneAsConflicting larger calls → RefusesNoneForItsStore smaller calls → RefusesNoneForItsStore larger calls
    → (t : ℕ) (set : Whole) → ReadsOut smaller calls t set → ReadOutSinceTheLastClear larger calls t set

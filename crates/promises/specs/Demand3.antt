-- Demand 3, word by word:
--
--   Two set collectors start empty with equal cell size, one with a key limit no larger than the other's. Both get the same sections with the same
--   PIDs in the same order, and are cleared at the same places if at all. Suppose the larger refuses no section as conflicting, neither refuses for
--   want of cells, a full counter or a store not whole, and nothing else writes to their stores. Then each set the smaller hands out has, since the
--   last clear, been handed out by the larger at that section or an earlier one, byte for byte.
--
-- It is said of the collector over lent memory: `tells s i` is what `push` and `clear` of the crate sets are proved to answer to call i where their
-- memory is s, `acts s i` is the memory that they are proved to leave, and `Opened s` says that s is as `open` is proved to leave it.
-- Assumes nothing.
use Rattle.std.specs.Prelude.{ℕ, ◌≤◌, ◌≡◌, List, Some}
use Rattle.laws.specs.Runs.{answers, At, Never, GivenBy}
use Rattle.rules_shared.specs.Same.{Bytes}
use Rattle.rules_sets.specs.Rules.{Whole, Answer, handout, conflict, not_whole, counter_full, no_cell}
use Rattle.store.specs.Store.{Store}
use Rattle.sets.specs.History as sets
use Rattle.ties_sets.specs.View as ties
use Rattle.ties_sets.specs.View.{Opened}

-- "Two set collectors": the settings and counts of a collector, with the content of the memory that is lent to it
abbrev pub Collector : Type 0
Collector = Store

-- ".. start empty": as `open` leaves it where it answers 7, whatever the lent memory holds
abbrev pub StartsEmpty : Collector → Type 0
StartsEmpty s = Opened s

-- ".. with equal cell size"
abbrev pub EqualCellSize : (smaller larger : Collector) → Type 0
EqualCellSize smaller larger = smaller.sets.size ≡ larger.sets.size

-- ".. one with a key limit no larger than the other's"
abbrev pub LimitNoLarger : (smaller larger : Collector) → Type 0
LimitNoLarger smaller larger = smaller.sets.limit ≤ larger.sets.limit

-- a call: a clear, or a section with the input that it came in by and its PID, a number
pub data Given : Type 0 where
  clears : Given
  section : (input pid : ℕ) → (bytes : Bytes) → Given

-- .. as `clear` and `push` take it
abbrev pub made : Given → sets.Call
made clears = sets.empty
made (section input pid bytes) = sets.offer input (Some pid) bytes

abbrev pub OfBytes : Given → Type 0
OfBytes i = sets.Bytes (made i)

abbrev pub tells : Collector → Given → Answer
tells s i = ties.tells s (made i)

abbrev pub acts : Collector → Given → Collector
acts s i = ties.acts s (made i)

-- "Both get the same sections with the same PIDs in the same order, and are cleared at the same places if at all": one list of calls for both, each a
-- clear or a section with its PID
abbrev pub Calls : Type 0
Calls = List Given

-- a section is a list of bytes, numbers below 256, and of any bytes
abbrev pub SectionsOfBytes : Calls → Type 0
SectionsOfBytes calls = (t : ℕ) (i : Given) → At calls t i → OfBytes i

-- ".. and nothing else writes to their stores": the answers where each call finds the memory as the call before it left it
abbrev pub answers_of : Collector → Calls → List Answer
answers_of s calls = answers tells acts s calls

-- "the larger refuses no section as conflicting": 22 is no answer
abbrev pub RefusesNoneAsConflicting : Collector → Calls → Type 0
RefusesNoneAsConflicting s calls = Never conflict (answers_of s calls)

-- "neither refuses for want of cells, a full counter or a store not whole": neither 21 nor 11 nor 10 is an answer
pub record RefusesNoneForItsStore (s : Collector) (calls : Calls) : Type 0 where
  pub cells : Never no_cell (answers_of s calls)
  pub counter : Never counter_full (answers_of s calls)
  pub wholeness : Never not_whole (answers_of s calls)

-- "each set the smaller hands out": the answer to call number t is 5, with this set: its key, its version, its last_section_number and its sections'
-- bytes, in section order
abbrev pub HandsOut : Collector → Calls → ℕ → Whole → Type 0
HandsOut s calls t set = At (answers_of s calls) t (handout set)

-- ".. has, since the last clear, been handed out by the larger at that section or an earlier one, byte for byte": some call, number t or before it, was
-- answered 5 with the same set, and no call from that one to number t is a clear
abbrev pub HandedOutSinceTheLastClear : Collector → Calls → ℕ → Whole → Type 0
HandedOutSinceTheLastClear s calls t set = GivenBy clears handout (answers_of s calls) calls t set

abbrev pub Demand3 : Type 0
Demand3 = (smaller larger : Collector) → StartsEmpty smaller → StartsEmpty larger → EqualCellSize smaller larger → LimitNoLarger smaller larger
    → (calls : Calls) → SectionsOfBytes calls
    → RefusesNoneAsConflicting larger calls → RefusesNoneForItsStore smaller calls → RefusesNoneForItsStore larger calls
    → (t : ℕ) (set : Whole) → HandsOut smaller calls t set → HandedOutSinceTheLastClear larger calls t set

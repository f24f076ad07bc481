-- The third demand for present and following, word by word:
--
--   Two EIT collectors, one limit no larger than the other, are fed alike from empty under the mission's conditions. Add these: nothing is dropped by filter, and
--   accepted sections of one segment in the same set, version and last section number give the same segment_last_section_number, and none has a section number
--   above the segment end (docs/RULES.md, "Collectors"). Then each present/following set the smaller hands out has, since the last clear, come from the larger at the same
--   section or before, with the same bytes.
--
-- The mission's conditions are demand 3's (promises/specs/Demand3.antt). It is said of the collector over lent memory: `tells s i` is what `push`, `clear` and `drop` of the crate eit
-- are proved to answer to call i where their memory is s, `acts s i` is the memory that they are proved to leave, and `Opened s` says that s is as `open` is proved to leave it.
-- Assumes nothing.
use Rattle.std.specs.Prelude.{ℕ, ◌*◌, ◌/◌, ◌≤◌, ◌≡◌, ◌⊎◌, List, Some}
use Rattle.laws.specs.Runs.{answers, At, Never, GivenBy}
use Rattle.eit_section.specs.Segment.{segment_end}
use Rattle.answers.specs.declared.Refusal.{Refusal}
use Rattle.answers.specs.declared.Refusal.TheVariants as refusal
use Rattle.rules_shared.specs.Same.{Bytes}
use Rattle.rules_eit.specs.Rules.{Section, Call, offer, Whole, Answer, refused, handout}
use Rattle.eit_state.specs.State.{Store}
use Rattle.eit_drop.specs.declared.Filter.{Filter}
use Rattle.ties_eit.specs.View as ties
use Rattle.ties_eit.specs.View.{Opened}

-- "Two EIT collectors": the settings and counts of a collector, with the content of the memory that is lent to it
abbrev pub Collector : Type 0
Collector = Store

-- ".. from empty": as `open` leaves it where it answers 7, whatever the lent memory holds
abbrev pub StartsEmpty : Collector → Type 0
StartsEmpty s = Opened s

-- "equal cell size"
abbrev pub EqualCellSize : (smaller larger : Collector) → Type 0
EqualCellSize smaller larger = smaller.eit.sets.size ≡ larger.eit.sets.size

-- "one limit no larger than the other"
abbrev pub LimitNoLarger : (smaller larger : Collector) → Type 0
LimitNoLarger smaller larger = smaller.eit.sets.limit ≤ larger.eit.sets.limit

-- a call: a clear, a drop by a filter, or a section with the input that it came in by and its PID, a number
pub data Given : Type 0 where
  clears : Given
  drops : Filter → Given
  section : (input pid : ℕ) → (bytes : Bytes) → Given

-- .. as `clear`, `drop` and `push` take it
abbrev pub made : Given → ties.Given
made clears = ties.clears
made (drops f) = ties.drops f
made (section input pid bytes) = ties.section input (Some pid) bytes

abbrev pub Fitting : Given → Type 0
Fitting i = ties.Fitting (made i)

abbrev pub reads : Given → Call
reads i = ties.reads (made i)

abbrev pub tells : Collector → Given → Answer
tells s i = ties.tells s (made i)

abbrev pub acts : Collector → Given → Collector
acts s i = ties.acts s (made i)

-- ".. are fed alike": one list of calls for both, each a clear, a drop or a section with its PID
abbrev pub Calls : Type 0
Calls = List Given

-- a section is a list of bytes, and of any bytes; a filter names a kind and a current_next that there are
abbrev pub CallsFit : Calls → Type 0
CallsFit calls = (t : ℕ) (i : Given) → At calls t i → Fitting i

-- "nothing else writes to their stores": the answers where each call finds the memory as the call before it left it
abbrev pub answers_of : Collector → Calls → List Answer
answers_of s calls = answers tells acts s calls

-- "the larger refuses no section as conflicting": 22 is no answer
abbrev pub RefusesNoneAsConflicting : Collector → Calls → Type 0
RefusesNoneAsConflicting s calls = Never (refused refusal.Conflict) (answers_of s calls)

-- "neither refuses for want of cells, a full counter or a store not whole": neither 21 nor 11 nor 10 is an answer
pub record RefusesNoneForItsStore (s : Collector) (calls : Calls) : Type 0 where
  pub cells : Never (refused refusal.NoCell) (answers_of s calls)
  pub counter : Never (refused refusal.CounterFull) (answers_of s calls)
  pub wholeness : Never (refused refusal.NotWhole) (answers_of s calls)

-- "nothing is dropped by filter"
abbrev pub NothingDropped : Calls → Type 0
NothingDropped calls = (f : Filter) → Never (drops f) calls

-- "accepted sections": some call, number `at`, gives a section that says x, and its answer is 4, 5, 6 or 23: no refusal but 23, which keeps the section
pub record Accepted (s : Collector) (calls : Calls) (x : Section) : Type 0 where
  pub at : ℕ
  pub call : Given
  pub given : At calls at call
  pub says : reads call ≡ offer x
  pub taken : (r : Refusal) → At (answers_of s calls) at (refused r) → r ≡ refusal.Range

-- ".. of one segment in the same set, version and last section number"
pub record OfOneSegment (x y : Section) : Type 0 where
  pub from : x.from ≡ y.from
  pub table_id : x.table_id_of ≡ y.table_id_of
  pub service_id_lem : x.service_id ≡ y.service_id
  pub transport_stream_id_lem : x.transport_stream_id ≡ y.transport_stream_id
  pub original_network_id_lem : x.original_network_id ≡ y.original_network_id
  pub current_next : x.current_next_of ≡ y.current_next_of
  pub version : x.version ≡ y.version
  pub last_section_number_lem : x.last ≡ y.last
  pub segment : x.number / 8 ≡ y.number / 8

-- ".. give the same segment_last_section_number"
abbrev pub SegmentsAgree : Collector → Calls → Type 0
SegmentsAgree s calls = (x y : Section) → Accepted s calls x → Accepted s calls y → OfOneSegment x y → x.segment_last ≡ y.segment_last

-- ".. and none has a section number above the segment end (docs/RULES.md, "Collectors")"
abbrev pub NoneAboveItsSegment : Collector → Calls → Type 0
NoneAboveItsSegment s calls = (x : Section) → Accepted s calls x → x.number ≤ segment_end (8 * (x.number / 8)) x.segment_last x.last

-- "each present/following set the smaller hands out": the answer to call number t is 5, with this set
abbrev pub HandsOut : Collector → Calls → ℕ → Whole → Type 0
HandsOut s calls t set = At (answers_of s calls) t (handout set)

-- ".. has, since the last clear, come from the larger at the same section or before, with the same bytes": some call, number t or before it, was answered 5 with the same
-- set, and no call from that one to number t is a clear
abbrev pub HandedOutSinceTheLastClear : Collector → Calls → ℕ → Whole → Type 0
HandedOutSinceTheLastClear s calls t set = GivenBy clears handout (answers_of s calls) calls t set

abbrev pub PresentFollowing : Type 0
PresentFollowing = (smaller larger : Collector) → StartsEmpty smaller → StartsEmpty larger → EqualCellSize smaller larger → LimitNoLarger smaller larger
    → (calls : Calls) → CallsFit calls
    → RefusesNoneAsConflicting larger calls → RefusesNoneForItsStore smaller calls → RefusesNoneForItsStore larger calls
    → NothingDropped calls → SegmentsAgree larger calls → NoneAboveItsSegment larger calls
    → (t : ℕ) (set : Whole) → HandsOut smaller calls t set → HandedOutSinceTheLastClear larger calls t set

-- the same where things may be dropped by filter
abbrev pub PresentFollowingWithDrops : Type 0
PresentFollowingWithDrops = (smaller larger : Collector) → StartsEmpty smaller → StartsEmpty larger → EqualCellSize smaller larger → LimitNoLarger smaller larger
    → (calls : Calls) → CallsFit calls
    → RefusesNoneAsConflicting larger calls → RefusesNoneForItsStore smaller calls → RefusesNoneForItsStore larger calls
    → SegmentsAgree larger calls → NoneAboveItsSegment larger calls
    → (t : ℕ) (set : Whole) → HandsOut smaller calls t set → HandedOutSinceTheLastClear larger calls t set

-- .. and where 10 is not asked about: it never occurs
abbrev pub NeverCellsOrCounter : Collector → Calls → Type 0
NeverCellsOrCounter s calls = Never (refused refusal.NoCell) (answers_of s calls) × Never (refused refusal.CounterFull) (answers_of s calls)

abbrev pub PresentFollowingOpened : Type 0
PresentFollowingOpened = (smaller larger : Collector) → StartsEmpty smaller → StartsEmpty larger → EqualCellSize smaller larger → LimitNoLarger smaller larger
    → (calls : Calls) → CallsFit calls
    → RefusesNoneAsConflicting larger calls → NeverCellsOrCounter smaller calls → NeverCellsOrCounter larger calls
    → SegmentsAgree larger calls → NoneAboveItsSegment larger calls
    → (t : ℕ) (set : Whole) → HandsOut smaller calls t set → HandedOutSinceTheLastClear larger calls t set

-- "present/following": in every history a set that answer 5 comes with has table_id 0x4E or 0x4F (EN 300 468, table 2)
abbrev pub FiveIsPresentFollowing : Type 0
FiveIsPresentFollowing = (s : Collector) → StartsEmpty s → (calls : Calls) → CallsFit calls
    → (t : ℕ) (set : Whole) → HandsOut s calls t set → (set.key.table_id_of ≡ 0x4E) ⊎ (set.key.table_id_of ≡ 0x4F)

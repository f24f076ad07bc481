-- The EIT collector (docs/RULES.md, "Collectors" and "Answers"): rows in touch order with their sections' bytes, and no memory.
-- All but `finish` and what stands below it is open in A, what a slot holds, so that the collector with cells (specs/Cells.antt) uses the same text.
-- Assumes nothing.
use Rattle.std.specs.Prelude.{◌≡◌, Bool, true, false, not, ℕ, zero, suc, ◌-◌, leb, length, set}
use Rattle.std.proofs.Math.Option.{Option, none, some}
use Rattle.answers.specs.Answers.{refusal_no}
use Rattle.answers.specs.declared.Refusal.{Refusal}
use Rattle.answers.specs.declared.Refusal.TheVariants as refusal
use Rattle.rules_shared.specs.Refusals as refusals
use Rattle.rules_shared.specs.Same.{Bytes, Origin}
use Rattle.rules_shared.specs.Touch.{TouchOrder, find, untouched, aside, newest, touch, emptied, retained}
use Rattle.rules_shared.specs.Row.{Part, start, slot_of, marked, put}
use Rattle.rules_shared.specs.Cells.{Settings, would_keep}
use Rattle.rules_eit.specs.Keys.{Kind, kind_of, first_of, ScheduleKey, SetKey, same_schedule, same_set, Filter, bad_filter, matches}
use Rattle.rules_eit.specs.Segments.{segment_of, SegmentLasts, no_lasts, SetOf, complete}
use Rattle.rules_eit.specs.Schedules.{ScheduleOf, WholeOf, GuideOf, copy_of, whole, begin, enter, all_tables, guide}

-- the collector: sets and schedules, each with "its own touch order and eviction count"
pub record EitOf (A : Type 0) : Type 0 where
  pub sets : TouchOrder SetKey (SetOf A)
  pub schedules : TouchOrder ScheduleKey (ScheduleOf A)

-- a section whose PID and bytes give no reason to refuse it but, maybe, its table_id (12, 14 to 17, 19): what it says, and all its bytes
pub record Section : Type 0 where
  pub from : Origin
  pub table_id_of : ℕ
  pub service_id : ℕ
  pub transport_stream_id : ℕ
  pub original_network_id : ℕ
  pub current_next_of : Bool
  pub version : ℕ
  pub number : ℕ
  pub last : ℕ
  pub segment_last : ℕ
  pub last_table : ℕ
  pub bytes : Bytes

unfoldable pub schedule_of : Section → Kind → ScheduleKey
schedule_of x k = record {
  from = x.from;
  kind = k;
  service_id = x.service_id;
  transport_stream_id = x.transport_stream_id;
  original_network_id = x.original_network_id;
  current_next_of = x.current_next_of;
}

unfoldable pub key_of : Section → Kind → SetKey
key_of x k = record { schedule = schedule_of x k; table_id_of = x.table_id_of }

-- "A newly kept section also sets its segment's last number; the latest kept wins"
unfoldable pub part_of : Section → Part SegmentLasts
part_of x = record {
  version = x.version;
  last = x.last;
  number = x.number;
  blank = no_lasts;
  noted = λ lasts. set lasts (segment_of x.number) (some x.segment_last);
}

-- the refusals that where a section came from and its bytes give, whatever the collector holds: 41, 12, 37, 14 to 17 and 19. Whether its table_id is one of an EIT (18)
-- is for the rules to say
abbrev pub from_bytes : Refusal → Bool
from_bytes refusal.NotWhole = false
from_bytes refusal.CounterFull = false
from_bytes refusal.BadPid = true
from_bytes refusal.TooLittle = false
from_bytes refusal.Malformed = true
from_bytes refusal.ShortForm = true
from_bytes refusal.BadNumber = true
from_bytes refusal.BadCrc = true
from_bytes refusal.NotEit = false
from_bytes refusal.Broken = true
from_bytes refusal.TooLong = false
from_bytes refusal.NoCell = false
from_bytes refusal.Conflict = false
from_bytes refusal.Range = false
from_bytes refusal.BadInput = true
from_bytes refusal.NoPid = true

-- a call: a clear; a drop by filter; a section that its PID or its bytes refuse; any other section
pub data Call : Type 0 where
  clear : Call
  drop : Filter → Call
  refuse : (r : Refusal) → from_bytes r ≡ true → Call
  offer : Section → Call

pub data AnswerOf (A : Type 0) : Type 0 where
  done : AnswerOf A
  nothing : AnswerOf A
  handout : WholeOf A → AnswerOf A
  schedule : GuideOf A → AnswerOf A
  refused : Refusal → AnswerOf A

-- the number of each answer
unfoldable pub number_of : {A : Type 0} → AnswerOf A → ℕ
number_of done = 7
number_of nothing = 4
number_of (handout w) = 5
number_of (schedule g) = 6
number_of (refused r) = refusal_no r

-- those that come from a store's memory, which the rules do not have: 10, 11 and 21
unfoldable pub barred : {A : Type 0} → AnswerOf A → Bool
barred done = false
barred nothing = false
barred (handout w) = false
barred (schedule g) = false
barred (refused r) = refusals.barred r

-- the refusals that leave all as before: every one but 22 and 23
unfoldable pub as_before : {A : Type 0} → AnswerOf A → Bool
as_before done = false
as_before nothing = false
as_before (handout w) = false
as_before (schedule g) = false
as_before (refused r) = refusals.as_before r

-- what a call answers and leaves
pub record StepOf (A : Type 0) : Type 0 where
  pub answer : AnswerOf A
  pub eit : EitOf A

module _ {A : Type 0} where
  abbrev pub gives : AnswerOf A → EitOf A → StepOf A
  gives a e = record { answer = a; eit = e }

  -- the row that a section meets: its key's, emptied where version or last number differ
  unfoldable pub met_row : Section → SetKey → EitOf A → SetOf A
  met_row x k e = start (part_of x) (find same_set k e.sets.rows)

  -- the key of a set is put aside, and becomes newest
  unfoldable pub set_aside : (limit : ℕ) → SetKey → EitOf A → EitOf A
  set_aside limit k e = record { sets = aside same_set limit k e.sets; schedules = e.schedules }

  unfoldable pub set_newest : SetKey → SetOf A → EitOf A → EitOf A
  set_newest k r e = record { sets = newest k r e.sets; schedules = e.schedules }

  -- a schedule "is found or made under the same limit by its own touch order and eviction count and becomes newest", and s is its row
  unfoldable pub schedule_touched : (limit : ℕ) → ScheduleKey → ScheduleOf A → EitOf A → EitOf A
  schedule_touched limit l s e = record { sets = e.sets; schedules = touch same_schedule limit l s e.schedules }

  unfoldable pub told : ScheduleKey → (first : ℕ) → ScheduleOf A → (all_there : Bool) → AnswerOf A
  told l first s false = nothing
  told l first s true = schedule (guide l first s)

  -- a complete set of a schedule: "refused (23) with the section kept and the mark clear" where its table_id exceeds the arriving section's last_table_id;
  -- otherwise it is "marked and put in as a copy", s being its schedule with the copy
  unfoldable pub ranged : (limit : ℕ) → EitOf A → SetKey → SetOf A → (first : ℕ) (in_range : Bool) → ScheduleOf A → StepOf A
  ranged limit e k r first false s = gives (refused refusal.Range) (set_newest k r e)
  ranged limit e k r first true s = gives (told k.schedule first s (all_tables first s)) (schedule_touched limit k.schedule s (set_newest k (marked r) e))

  -- a complete set that is not marked. "Present/following sets go out at once"
  unfoldable pub ready : (limit : ℕ) → EitOf A → SetKey → (last_table : ℕ) → SetOf A → (first : Option ℕ) → StepOf A
  ready limit e k last r none = gives (handout (whole k (copy_of r))) (set_newest k (marked r) e)
  ready limit e k last r (some first) =
      ranged limit e k r first (leb k.table_id_of last)
      (enter (k.table_id_of - first) (copy_of r) (begin e.sets.rows k.schedule first last (find same_schedule k.schedule e.schedules.rows)))

  -- e are the other rows, r is the row of key k, with the section, whose last_table_id is last_table
  unfoldable pub judged : (limit : ℕ) → EitOf A → SetKey → (last_table : ℕ) → SetOf A → (mark is_complete : Bool) → StepOf A
  judged limit e k last r true is_complete = gives nothing (set_newest k r e)
  judged limit e k last r false false = gives nothing (set_newest k r e)
  judged limit e k last r false true = ready limit e k last r (first_of k.schedule.kind)

  unfoldable pub judge : (limit : ℕ) → EitOf A → SetKey → (last_table : ℕ) → SetOf A → StepOf A
  judge limit e k last r = judged limit e k last r r.mark (complete r)

  -- "Clearing empties all rows, not the eviction counts"
  unfoldable pub cleared : EitOf A → EitOf A
  cleared e = record { sets = emptied e.sets; schedules = emptied e.schedules }

  -- "sets and schedules that match go"
  unfoldable pub dropped : Filter → EitOf A → EitOf A
  dropped f e = record { sets = retained (λ k. not (matches f k.schedule)) e.sets; schedules = retained (λ l. not (matches f l)) e.schedules }

  -- whether the rules keep a section under key k
  unfoldable pub is_kept : Settings → EitOf A → Section → SetKey → Bool
  is_kept o e x k = would_keep o x.bytes (slot_of (part_of x) (met_row x k e))

-- ---- a slot holds the section's bytes

abbrev pub SetRow : Type 0
SetRow = SetOf Bytes

abbrev pub Eit : Type 0
Eit = EitOf Bytes

abbrev pub Whole : Type 0
Whole = WholeOf Bytes

abbrev pub Guide : Type 0
Guide = GuideOf Bytes

abbrev pub Answer : Type 0
Answer = AnswerOf Bytes

abbrev pub Step : Type 0
Step = StepOf Bytes

-- r is the row that the section met, `now` is that row with the section in its slot; none: conflict, 22, "key becomes newest, else as before"
unfoldable pub finish : (limit : ℕ) → Eit → SetKey → (last_table : ℕ) (r : SetRow) (now : Option SetRow) → Step
finish limit e k last r none = gives (refused refusal.Conflict) (set_newest k r e)
finish limit e k last r (some r') = judge limit e k last r'

-- "Limit 0: an otherwise good section answers 4 and changes nothing"
unfoldable pub push : (limit : ℕ) → Eit → Section → SetKey → Step
push zero e x k = gives nothing e
push (suc n) e x k = finish (suc n) (set_aside (suc n) k e) k x.last_table (met_row x k e) (put (part_of x) x.bytes (met_row x k e))

-- 20: "longer than a cell"
unfoldable pub admit : (limit : ℕ) → Eit → Section → SetKey → (short : Bool) → Step
admit limit e x k false = gives (refused refusal.TooLong) e
admit limit e x k true = push limit e x k

-- 18: "not an EIT table_id"
unfoldable pub offered : Settings → Eit → Section → Option Kind → Step
offered o e x none = gives (refused refusal.NotEit) e
offered o e x (some kind) = admit o.limit e x (key_of x kind) (leb (length x.bytes) o.cell_size)

-- 41, 12, 37: the filter asks for no PID, or for a PID or an input that there is none of
unfoldable pub dropping : Eit → Filter → (bad : Option Refusal) → Step
dropping e f (some r) = gives (refused r) e
dropping e f none = gives done (dropped f e)

unfoldable pub step : Settings → Eit → Call → Step
step o e clear = gives done (cleared e)
step o e (drop f) = dropping e f (bad_filter f)
step o e (refuse r b) = gives (refused r) e
step o e (offer x) = offered o e x (kind_of x.table_id_of)

unfoldable pub tells : Settings → Eit → Call → Answer
tells o e i = (step o e i).answer

unfoldable pub acts : Settings → Eit → Call → Eit
acts o e i = (step o e i).eit

-- 7, opened: "no rows, counts 0"
abbrev pub opened : Eit
opened = record { sets = untouched; schedules = untouched }

-- What each call of the EIT collector answers and leaves, for every content of the lent memory (docs/RULES.md, "Collectors", "Cells" and
-- "Answers"). `cond test a b` is a where the test is true, else b.
use Rattle.std.specs.Prelude.{ℕ, zero, suc, ◌*◌, List, [], ◌∷◌, map, cond, length, Option, Result, Ok, Err}
use Rattle.answers.specs.Answers.{refusal_no, Outcome}
use Rattle.answers.specs.declared.Refusal.{Refusal}
use Rattle.answers.specs.declared.Refusal.TheVariants as refusal
use Rattle.arrivals.specs.declared.Arrival.{Arrival}
use Rattle.cells.specs.Cells.{kept}
use Rattle.rows.specs.Rows.{key_at, row_slots, last_of, version_of}
use Rattle.rows.specs.declared.Key.{Key}
use Rattle.readers.specs.Next.{filled_slots, no_section}
use Rattle.readers.specs.declared.Next.{Next}
use Rattle.segments.specs.Segments.{word_of}
use Rattle.units.specs.Units.{unit_slots}
use Rattle.schedules.specs.Schedules.{tables_of}
use Rattle.eit_state.specs.declared.PushAnswer.{PushAnswer}
use Rattle.eit_state.specs.declared.PushAnswer.TheVariants.{Nothing, Set, Schedule, Refused}
use Rattle.eit_state.specs.declared.Pushed.{Pushed}
use Rattle.eit_state.specs.declared.Turned.{Turned}
use Rattle.eit_state.specs.State.{Store, store, store_with, rows_of, settings_fit, whole_of, empty_eit}
use Rattle.eit_carry.specs.Carried.{Step, pushed_whole}
use Rattle.eit_next.specs.Following.{row_next, schedule_next}
use Rattle.eit_admit.specs.Admitting.{drop_of, admitted}
use Rattle.eit_pids.specs.Rows.{any_without}
use Rattle.eit_drop.specs.declared.Filter.{Filter}
use Rattle.filter.specs.declared.Fields.{Fields}
use Rattle.eit_drop.specs.Drop.{matching_gone}

-- ---- what is answered

-- a set that goes out: its row, its key, its version and last_section_number, and its sections' bytes in section order
pub record SetOut : Type 0 where
  pub row : ℕ
  pub key : Key
  pub version : ℕ
  pub last : ℕ
  pub sections : List (List ℕ)

-- a table of a schedule: its version and last_section_number, and its sections' bytes in section order
pub record TableOut : Type 0 where
  pub version : ℕ
  pub last : ℕ
  pub sections : List (List ℕ)

-- a schedule that goes out: its row, its key, whose table_id word is the kind, its last_table_id, and its tables in order of table_id
pub record ScheduleOut : Type 0 where
  pub row : ℕ
  pub key : Key
  pub last : ℕ
  pub tables : List TableOut

-- the set in row i
unfoldable pub set_out_lem : Store → ℕ → SetOut
set_out_lem s i = record {
  row = i;
  key = key_at s.heads i;
  version = version_of s.heads i;
  last = last_of s.heads i;
  sections = map (kept s.cells s.eit.sets.size) (filled_slots (row_slots s.heads s.slots i));
}

unfoldable pub table_out : Store → ℕ → TableOut
table_out s u = record {
  version = word_of s.units u 1;
  last = word_of s.units u 2;
  sections = map (kept s.cells s.eit.sets.size) (filled_slots (unit_slots s.units u));
}

-- n units from unit u on
unfoldable pub tables_out : Store → ℕ → ℕ → List TableOut
tables_out s u zero = []
tables_out s u (suc n) = table_out s u ∷ tables_out s (suc u) n

-- the schedule in row k: its tables from the first of its kind to last_table_id
unfoldable pub schedule_out : Store → ℕ → ScheduleOut
schedule_out s k = record {
  row = k;
  key = key_at s.schedule_heads k;
  last = last_of s.schedule_heads k;
  tables = tables_out s (k * 16) (tables_of s.schedule_heads k);
}

-- what a call tells: that it is done, that there is nothing to hand out, a set, a schedule, or why it is refused
pub data Told : Type 0 where
  done : Told
  nothing : Told
  a_set : SetOut → Told
  a_schedule : ScheduleOut → Told
  refused : Refusal → Told

-- the number of each
abbrev pub number : Told → ℕ
number done = 7
number nothing = 4
number (a_set x) = 5
number (a_schedule x) = 6
number (refused r) = refusal_no r

-- what an answer to a section tells, with the store that is left
abbrev pub answer_of : PushAnswer → Store → Told
answer_of Nothing s = nothing
answer_of (Set i) s = a_set (set_out_lem s i)
answer_of (Schedule k) s = a_schedule (schedule_out s k)
answer_of (Refused r) s = refused r

abbrev pub outcome_of : Outcome → Told
outcome_of (Ok _) = done
outcome_of (Err r) = refused r

-- what a call told, and the store that it left
pub record After : Type 0 where
  pub told : Told
  pub store : Store

abbrev pub after : Told → Store → After
after t s = record { told = t; store = s }

-- what a call handed back, with the slices as it left them
abbrev pub turned : Turned → (heads slots cells schedule_heads units : List ℕ) → After
turned r heads slots cells schedule_heads units = after (outcome_of r.answer) (store r.eit heads slots cells schedule_heads units)

abbrev pub told_step : Step → After
told_step x = after (answer_of x.answer x.store) x.store

abbrev pub pushed : Pushed → (heads slots cells schedule_heads units : List ℕ) → After
pushed r heads slots cells schedule_heads units = told_step (record { answer = r.answer; store = store r.eit heads slots cells schedule_heads units })

-- ---- opening and clearing

-- 7, or 13
unfoldable pub opened_of : Store → After
opened_of s =
    after
    (cond (settings_fit s.eit (length s.heads) (length s.slots) (length s.cells) (length s.schedule_heads) (length s.units)) done (refused refusal.TooLittle))
    s

-- 10, 41 where a set or a schedule has no PID, or 7
unfoldable pub cleared_of : Store → After
cleared_of s =
    cond (whole_of s)
    (cond (any_without s.eit s.heads s.schedule_heads) (after (refused refusal.NoPid) s)
    (after done (store (empty_eit s.eit) s.heads s.slots s.cells s.schedule_heads s.units)))
    (after (refused refusal.NotWhole) s)

-- ---- dropping by a filter

abbrev pub carried_drop : Store → Result Fields Refusal → After
carried_drop s (Err r) = after (refused r) s
carried_drop s (Ok f) = after done (store_with (matching_gone (rows_of s) f) s.cells)

unfoldable pub dropped_of : Store → Filter → After
dropped_of s f = carried_drop s (drop_of s f)

-- ---- a section

abbrev pub pushed_as : Store → (bytes : List ℕ) → Result Arrival Refusal → After
pushed_as s bytes (Err r) = after (refused r) s
pushed_as s bytes (Ok a) = told_step (pushed_whole s bytes a)

unfoldable pub pushed_of : Store → (input : ℕ) → Option ℕ → (bytes : List ℕ) → After
pushed_of s input pid bytes = pushed_as s bytes (admitted s input pid bytes)

-- ---- the sections of a set and of a table of a schedule, one after another

-- 10, then 41 where a set or a schedule has no PID, then 8 with the first filled slot at or after `from`; 9 where there is none or the row is not in use
unfoldable pub next_of : Store → (row from : ℕ) → Next
next_of s row from =
    cond (whole_of s)
    (cond (any_without s.eit s.heads s.schedule_heads) (no_section (Err refusal.NoPid))
    (row_next s.heads s.slots s.eit.sets.used s.eit.sets.size row from))
    (no_section (Err refusal.NotWhole))

-- of a table of a schedule, by its number from the first of the kind on
unfoldable pub next_in_of : Store → (row table from : ℕ) → Next
next_in_of s row table from =
    cond (whole_of s)
    (cond (any_without s.eit s.heads s.schedule_heads) (no_section (Err refusal.NoPid))
    (schedule_next s.schedule_heads s.units s.eit.schedules s.eit.sets.size row table from))
    (no_section (Err refusal.NotWhole))

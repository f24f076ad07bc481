-- A complete set enters the schedule of its service (docs/RULES.md, "Collectors"): for every content of the lent memory.
-- `cond test a b` is a where the test is true, else b.
use Rattle.std.specs.Prelude.{ℕ, ◌<◌, List, Bool, cond}
use Rattle.rows.specs.declared.Entry.{Entry}
use Rattle.arrivals.specs.declared.Arrival.{Arrival}
use Rattle.units.specs.Units.{with_table}
use Rattle.schedules.specs.Schedules.{room_of, scheduled_heads, scheduled_units, tables_there}
use Rattle.schedules.specs.declared.ScheduleRoom.{ScheduleRoom}
use Rattle.eit_state.specs.declared.PushAnswer.{PushAnswer}
use Rattle.eit_state.specs.declared.PushAnswer.TheVariants as answer
use Rattle.eit_state.specs.declared.Pushed.{Pushed}
use Rattle.eit_state.specs.State.{Rows, rows, with_schedules, RowsFit}
use Rattle.eit_becomes.specs.Becoming.{own_table}

-- an answer, and all but the cells as it is then
pub record Settled : Type 0 where
  pub answer : PushAnswer
  pub rows : Rows

abbrev pub answered : Pushed → (heads slots schedule_heads units : List ℕ) → Settled
answered r heads slots schedule_heads units = record { answer = r.answer; rows = rows r.eit heads slots schedule_heads units }

-- the schedule of an arrival: the kind in the place of table_id, last_table_id in the place of last_section_number
abbrev pub schedule_entry : Arrival → Entry
schedule_entry a = record { key = with_table a.entry.key a.kind; version = 0; last = a.tables; number = 0 }

-- a schedule with all its tables goes out
abbrev pub entered_answer : (all : Bool) → (row : ℕ) → PushAnswer
entered_answer all row = cond all (answer.Schedule row) answer.Nothing

-- the set of row i enters the schedule there, which is touched with the clock's tick
unfoldable pub entered_in : Rows → Arrival → ℕ → ScheduleRoom → Settled
entered_in r a i there =
    let e : Entry = schedule_entry a in
    let units : List ℕ = scheduled_units r.heads r.slots r.eit.sets.used e (own_table a) i there r.units in
    record {
      answer = entered_answer (tables_there units there.room.row e) there.room.row;
      rows = rows (with_schedules r.eit there.room.used there.room.evictions) r.heads r.slots (scheduled_heads r.eit.sets.clock there.room e r.schedule_heads) units;
    }

-- the schedule of its service, which is found or made
unfoldable pub entered : Rows → Arrival → ℕ → Settled
entered r a i = entered_in r a i (room_of r.schedule_heads r.eit.sets.limit r.eit.schedules r.eit.schedule_evictions (schedule_entry a))

-- what is asked of row i and its schedule
pub record SettleOk (r : Rows) (i : ℕ) : Type 0 where
  pub row : i < r.eit.sets.used
  pub room : RowsFit r
  pub counts : r.eit.schedule_evictions < 18446744073709551615

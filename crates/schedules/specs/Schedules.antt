-- The rows of schedules (docs/RULES.md, "Collectors"). A schedule's head is a row's head whose table_id word is the kind and whose last word is
-- last_table_id; 16 units follow each other, one for each table of the kind. For every content of the lent slices.
-- `cond test a b` is a where the test is true, else b.
use Rattle.std.specs.Prelude.{ℕ, zero, suc, ◌+◌, ◌-◌, ◌*◌, ◌%◌, ◌≤◌, ◌<◌, min, List, Bool, true, false, cond, ◌&&◌, ◌||◌, ltb, eqb}
use Rattle.rows.specs.Rows.{table_word, row_of, touched, taken_in, room_in, room_renewed, room_new, kept_heads, last_of}
use Rattle.rows.specs.declared.Entry.{Entry}
use Rattle.rows.specs.declared.Room.{Room}
use Rattle.units.specs.Units.{first_table, units_whole, taken_in_units, marked_units, all_present, without_units, with_set, refilled}
use Rattle.schedules.specs.declared.ScheduleRoom.{ScheduleRoom}

-- ---- how many tables

-- from the first table_id of the kind to last_table_id, the 16 of the kind at most
abbrev pub table_count : (kind last : ℕ) → ℕ
table_count kind last = min (last - first_table kind) 15 + 1

-- of the schedule in row k. Units past them are not looked at
unfoldable pub tables_of : (schedule_heads : List ℕ) → ℕ → ℕ
tables_of schedule_heads k = table_count (table_word schedule_heads k) (last_of schedule_heads k)

-- ---- all schedules in use

-- every slot of a table of the first n schedules is whole
unfoldable pub schedules_whole : List ℕ → List ℕ → ℕ → ℕ → ℕ → Bool
schedules_whole schedule_heads units count size zero = true
schedules_whole schedule_heads units count size (suc n) = units_whole units count size (n * 16) (tables_of schedule_heads n) && schedules_whole schedule_heads units count size n

-- a slot of a table of one of the first n schedules names it
unfoldable pub taken_in_schedules : List ℕ → List ℕ → ℕ → ℕ → Bool
taken_in_schedules schedule_heads units zero c = false
taken_in_schedules schedule_heads units (suc n) c = taken_in_units units (n * 16) (tables_of schedule_heads n) c || taken_in_schedules schedule_heads units n c

-- "A cell is free exactly when no slot or schedule copy of a row in use names it": a row other than the row `gone` or a schedule names cell c
unfoldable pub taken_anywhere : List ℕ → List ℕ → List ℕ → List ℕ → ℕ → ℕ → ℕ → ℕ → Bool
taken_anywhere heads slots schedule_heads units gone used n c = taken_in heads slots gone used c || taken_in_schedules schedule_heads units n c

-- the map with each cell that such a slot names
unfoldable pub marked_schedules : List ℕ → List ℕ → ℕ → List ℕ → List ℕ
marked_schedules schedule_heads units zero map = map
marked_schedules schedule_heads units (suc n) map = marked_schedules schedule_heads units n (marked_units units (n * 16) (tables_of schedule_heads n) map)

-- ---- the schedule that a set goes into: its entry has its key, and its last_table_id in the place of last_section_number

-- the schedule of row k has the key: "If last_table_id differs .., that row is emptied first and refilled"
unfoldable pub room_known : (schedule_heads : List ℕ) → (held evictions : ℕ) → Entry → ℕ → ScheduleRoom
room_known schedule_heads held evictions e k =
    cond (eqb (last_of schedule_heads k) e.last)
    (record { room = room_in held evictions k; refill = false })
    (record { room = room_renewed held evictions k; refill = true })

-- "the schedule row is found or made under the same limit by its own touch order and eviction count": of the first `held` schedules the one of
-- that key, or a new one, which is not refilled
unfoldable pub room_of : (schedule_heads : List ℕ) → (limit held evictions : ℕ) → Entry → ScheduleRoom
room_of schedule_heads limit held evictions e =
    let k : ℕ = row_of schedule_heads e.key held in
    cond (ltb k held) (room_known schedule_heads held evictions e k) (record { room = room_new schedule_heads limit held evictions; refill = false })

-- the schedule's head is written, and it "becomes newest"
unfoldable pub scheduled_heads : (clock : ℕ) → Room → Entry → List ℕ → List ℕ
scheduled_heads clock r e schedule_heads = touched clock r.row (kept_heads r e schedule_heads)

-- a schedule that begins anew has no tables; one whose range changed has those that are complete, but the table `own`
unfoldable pub ready_units : (heads slots : List ℕ) → (used : ℕ) → Entry → (own : ℕ) → ScheduleRoom → List ℕ → List ℕ
ready_units heads slots used e own r units =
    let base : ℕ = r.room.row * 16 in
    let emptied : List ℕ = without_units base 16 units in
    cond r.room.fresh (cond r.refill (refilled heads slots used e.key own base (table_count e.key.table_id e.last) emptied) emptied) units

-- the set of row i is "put in as a copy": it is the table `own`, and table_ids of both schedule kinds begin at a multiple of 16
unfoldable pub scheduled_units : (heads slots : List ℕ) → (used : ℕ) → Entry → (own i : ℕ) → ScheduleRoom → List ℕ → List ℕ
scheduled_units heads slots used e own i r units = with_set heads slots i (r.room.row * 16 + own % 16) (ready_units heads slots used e own r units)

-- "A schedule with all tables from 0x50 or 0x60 to last_table_id": never where last_table_id is past the kind
unfoldable pub tables_there : (units : List ℕ) → ℕ → Entry → Bool
tables_there units row e =
    ltb (e.last - first_table e.key.table_id) 16 && all_present units (row * 16) (table_count e.key.table_id e.last)

-- a schedule's row is within the limit
pub record RoomFits (limit : ℕ) (r : ScheduleRoom) : Type 0 where
  pub row : r.room.row < r.room.used
  pub room : r.room.used ≤ limit

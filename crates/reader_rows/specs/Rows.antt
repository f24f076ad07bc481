-- The slots that a reader is given, for every content of the lent memory: none where the store is not whole (10), and none where a row in use has no PID (41).
-- `cond test a b` is a where the test is true, else b.
use Rattle.std.specs.Prelude.{ℕ, ◌+◌, ◌*◌, List, [], cond, ltb}
use Rattle.rows.specs.Rows.{row_slots}
use Rattle.store.specs.Store as sets
use Rattle.units.specs.Units.{is_present, unit_slots}
use Rattle.schedules.specs.Schedules.{tables_of}
use Rattle.without_pid.specs.Pids.{without_pid}
use Rattle.eit_state.specs.State as eit
use Rattle.eit_pids.specs.Rows.{any_without}

-- of the set in a row in use
unfoldable pub set_slots : sets.Store → (row : ℕ) → List ℕ
set_slots s row =
    cond (sets.whole_of s) (cond (without_pid s.heads s.sets.used) [] (cond (ltb row s.sets.used) (row_slots s.heads s.slots row) [])) []

-- of the EIT set in a row in use
unfoldable pub eit_slots : eit.Store → (row : ℕ) → List ℕ
eit_slots s row =
    cond (eit.whole_of s)
    (cond (any_without s.eit s.heads s.schedule_heads) [] (cond (ltb row s.eit.sets.used) (row_slots s.heads s.slots row) []))
    []

-- of unit u, where it is present
unfoldable pub unit_taken : (units : List ℕ) → (u : ℕ) → List ℕ
unit_taken units u = cond (is_present units u) (unit_slots units u) []

-- of a table of the schedule in a row in use, by its number from the first of the kind on
unfoldable pub table_slots : eit.Store → (row table : ℕ) → List ℕ
table_slots s row table =
    cond (eit.whole_of s)
    (cond (any_without s.eit s.heads s.schedule_heads) []
    (cond (ltb row s.eit.schedules) (cond (ltb table (tables_of s.schedule_heads row)) (unit_taken s.units (row * 16 + table)) []) []))
    []

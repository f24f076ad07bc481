-- The sections of a set and of a table of a schedule, one after another (docs/RULES.md, "Collectors"). `cond test a b` is a where the test is
-- true, else b.
use Rattle.std.specs.Prelude.{ℕ, ◌+◌, ◌*◌, List, cond, ltb, Ok, false}
use Rattle.cells.specs.Cells.{next_filled}
use Rattle.rows.specs.Rows.{row_slots}
use Rattle.readers.specs.Next.{no_section, slot_told}
use Rattle.readers.specs.declared.Next.{Next}
use Rattle.units.specs.Units.{is_present, unit_slots}
use Rattle.schedules.specs.Schedules.{tables_of}

-- 8 with the first filled slot at or after `from`; 9 where there is none or the row is not in use
abbrev pub row_next : (heads slots : List ℕ) → (used size row from : ℕ) → Next
row_next heads slots used size row from =
    cond (ltb row used) (slot_told size (row_slots heads slots row) (next_filled (row_slots heads slots row) from)) (no_section (Ok false))

-- the same of unit u, which has no sections where it is not present
unfoldable pub unit_next : (size : ℕ) → (units : List ℕ) → (u from : ℕ) → Next
unit_next size units u from = cond (is_present units u) (slot_told size (unit_slots units u) (next_filled (unit_slots units u) from)) (no_section (Ok false))

-- of a table of a schedule, by its number from the first of the kind on
abbrev pub schedule_next : (schedule_heads units : List ℕ) → (schedules size row table from : ℕ) → Next
schedule_next schedule_heads units schedules size row table from =
    cond (ltb row schedules)
    (cond (ltb table (tables_of schedule_heads row)) (unit_next size units (row * 16 + table) from) (no_section (Ok false)))
    (no_section (Ok false))

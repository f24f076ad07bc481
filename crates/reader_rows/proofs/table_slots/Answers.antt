use native.Mathlib.Omega.{arith}
use Rattle.reader_rows.proofs.Ways.{table_without, table_no_row, table_past, table_there, table_broken, head_there, unit_long}
use Rattle.eit_pids.proofs.Heads.{heads_fit}
use Rattle.reader_rows.proofs.table_slots.Goals as goal

pub any_row_without_pid-requires : goal.any_row_without_pid-requires
any_row_without_pid-requires c = search heads_fit

pub returns-then-any_row_without_pid : goal.returns-then-any_row_without_pid
returns-then-any_row_without_pid c = search table_without

pub returns-then-eit-row : goal.returns-then-eit-row
returns-then-eit-row c = search table_no_row

pub tables_of-requires : goal.tables_of-requires
tables_of-requires c = let a = c.args in head_there a.eit a.heads.now a.slots.now a.cells.now a.schedule_heads.now a.units.now _ c.is_whole.ensures c.if-is_whole.true a.row c.if-eit-row.false

pub returns-then-tables_of-table : goal.returns-then-tables_of-table
returns-then-tables_of-table c = search table_past

pub overflow_mul-row : goal.overflow_mul-row
overflow_mul-row c = let a = c.args in omega (arith, c.well_formed, c.ranges, unit_long a.eit a.heads.now a.slots.now a.cells.now a.schedule_heads.now a.units.now _ c.is_whole.ensures c.if-is_whole.true a.row a.table _ c.if-eit-row.false c.tables_of.ensures.1 c.if-tables_of-table.false)

pub overflow_add-row : goal.overflow_add-row
overflow_add-row c = let a = c.args in omega (arith, c.well_formed, c.ranges, unit_long a.eit a.heads.now a.slots.now a.cells.now a.schedule_heads.now a.units.now _ c.is_whole.ensures c.if-is_whole.true a.row a.table _ c.if-eit-row.false c.tables_of.ensures.1 c.if-tables_of-table.false)

pub unit_taken-requires : goal.unit_taken-requires
unit_taken-requires c = let a = c.args in unit_long a.eit a.heads.now a.slots.now a.cells.now a.schedule_heads.now a.units.now _ c.is_whole.ensures c.if-is_whole.true a.row a.table _ c.if-eit-row.false c.tables_of.ensures.1 c.if-tables_of-table.false

pub returns-then-is_whole : goal.returns-then-is_whole
returns-then-is_whole c = search table_there

pub returns : goal.returns
returns c = search table_broken

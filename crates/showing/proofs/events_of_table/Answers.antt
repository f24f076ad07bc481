use native.Mathlib.Omega.{arith}
use Rattle.showing.proofs.Ways.{table_refused, table_without, table_none, table_listed_lem}
use Rattle.eit_pids.proofs.Heads.{heads_fit}
use Rattle.showing.proofs.Held.{schedules_there, unit_long, table_held, size_small, length_unit}
use Rattle.showing.proofs.events_of_table.Goals as goal

pub any_row_without_pid-requires : goal.any_row_without_pid-requires
any_row_without_pid-requires c = search heads_fit

pub returns-then-any_row_without_pid : goal.returns-then-any_row_without_pid
returns-then-any_row_without_pid c = search table_without

pub is_table_out-requires : goal.is_table_out-requires
is_table_out-requires c = let a = c.args in schedules_there a.eit a.heads.now a.slots.now a.cells.now a.schedule_heads.now a.units.now _ c.is_whole.ensures c.if-is_whole.true

pub overflow_mul-row : goal.overflow_mul-row
overflow_mul-row c = let a = c.args in omega (arith, c.well_formed, c.ranges, unit_long a.eit a.heads.now a.slots.now a.cells.now a.schedule_heads.now a.units.now _ c.is_whole.ensures c.if-is_whole.true a.row _ a.table c.is_table_out.ensures c.if-is_table_out.true)

pub overflow_add-row : goal.overflow_add-row
overflow_add-row c = let a = c.args in omega (arith, c.well_formed, c.ranges, unit_long a.eit a.heads.now a.slots.now a.cells.now a.schedule_heads.now a.units.now _ c.is_whole.ensures c.if-is_whole.true a.row _ a.table c.is_table_out.ensures c.if-is_table_out.true)

pub unit_slots-part-requires : goal.unit_slots-part-requires
unit_slots-part-requires c = search unit_long

pub show_slots-requires : goal.show_slots-requires
show_slots-requires c = record { held_slots = search table_held; slots_len_bound = (search length_unit, search size_small) }

pub returns-then-is_table_out : goal.returns-then-is_table_out
returns-then-is_table_out c = search table_listed_lem

pub returns-then-is_whole : goal.returns-then-is_whole
returns-then-is_whole c = search table_none

pub returns : goal.returns
returns c = search table_refused

use Rattle.eit_next.proofs.Ways.{in_no_row, in_no_table, in_table}
use Rattle.eit_next.proofs.in_schedule.Goals as goal

pub returns-then-schedules-row : goal.returns-then-schedules-row
returns-then-schedules-row c = search in_no_row

pub returns-then-tables_of-table : goal.returns-then-tables_of-table
returns-then-tables_of-table c = search in_no_table

pub returns : goal.returns
returns c = search in_table

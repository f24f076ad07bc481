use Rattle.showing.proofs.Ways.{table_no_row, table_past, table_in_lem}
use Rattle.showing.proofs.is_table_out.Goals as goal

pub returns-then-schedules-row : goal.returns-then-schedules-row
returns-then-schedules-row c = search table_no_row

pub returns-then-tables_of-table : goal.returns-then-tables_of-table
returns-then-tables_of-table c = search table_past

pub returns : goal.returns
returns c = search table_in_lem

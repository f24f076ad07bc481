use Rattle.units.proofs.Laws.{table_own, table_other}
use Rattle.units.proofs.put_table.Goals as goal

pub returns-then-table-own : goal.returns-then-table-own
returns-then-table-own c = search table_own

pub returns : goal.returns
returns c = search table_other

use Rattle.schedules.proofs.Laws.{there_all, there_past}
use Rattle.schedules.proofs.tables_there.Goals as goal

pub returns-then-e-first_table : goal.returns-then-e-first_table
returns-then-e-first_table c = search there_all

pub returns : goal.returns
returns c = search there_past

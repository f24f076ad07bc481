use Rattle.guides.proofs.Ways.{table_there, table_none, is_schedule_lem}
use Rattle.guides.proofs.table_part.Goals as goal

pub table_of-requires : goal.table_of-requires
table_of-requires c = search is_schedule_lem

pub returns-then-is_schedule : goal.returns-then-is_schedule
returns-then-is_schedule c = search table_there

pub returns-else-is_schedule : goal.returns-else-is_schedule
returns-else-is_schedule c = search table_none

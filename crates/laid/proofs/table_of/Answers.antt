use Rattle.laid.proofs.Tables.{schedule_starts, part_of_table}
use Rattle.laid.proofs.table_of.Goals as goal

pub pass-start-requires : goal.pass-start-requires
pass-start-requires c = search schedule_starts

pub returns : goal.returns
returns c = search part_of_table

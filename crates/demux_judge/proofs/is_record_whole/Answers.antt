use Rattle.demux_judge.proofs.Laws.{record_tables, record_else}
use Rattle.demux_judge.proofs.is_record_whole.Goals as goal

pub returns-then-by_tables : goal.returns-then-by_tables
returns-then-by_tables c = search record_tables

pub returns : goal.returns
returns c = search record_else

use Rattle.host_streams.proofs.Laws.{all_written}
use Rattle.host_streams.proofs.write_where.Goals as goal

pub returns-in-Ok : goal.returns-in-Ok
returns-in-Ok c = search all_written

use Rattle.host_logs.proofs.Laws.{log_written_lem}
use Rattle.host_logs.proofs.write.Goals as goal

pub returns : goal.returns
returns c = search log_written_lem

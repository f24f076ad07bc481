use Rattle.host_logs.proofs.Laws.{log_checked_lem}
use Rattle.host_logs.proofs.check.Goals as goal

pub returns : goal.returns
returns c = search log_checked_lem

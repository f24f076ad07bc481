use Rattle.host_words.proofs.Laws.{pid_none, pid_some}
use Rattle.host_words.proofs.pids.maybe.Goals as goal

pub returns-then-pid-eq4294967295 : goal.returns-then-pid-eq4294967295
returns-then-pid-eq4294967295 c = search pid_none

pub returns-else-pid-eq4294967295 : goal.returns-else-pid-eq4294967295
returns-else-pid-eq4294967295 c = search pid_some

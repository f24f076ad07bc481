use Rattle.log_steps.proofs.Laws.{from_pid, from_none}
use Rattle.log_steps.proofs.origin_for.Goals as goal

pub returns-then-pids : goal.returns-then-pids
returns-then-pids c = search from_pid

pub returns-else-pids : goal.returns-else-pids
returns-else-pids c = search from_none

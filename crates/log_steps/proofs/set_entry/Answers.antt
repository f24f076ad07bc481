use Rattle.log_steps.proofs.Laws.{entry_with_lem, entry_bare}
use Rattle.log_steps.proofs.set_entry.Goals as goal

pub returns-then-pids : goal.returns-then-pids
returns-then-pids c = search entry_with_lem

pub returns-else-pids : goal.returns-else-pids
returns-else-pids c = search entry_bare

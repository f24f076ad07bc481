use Rattle.host_words.proofs.Laws.{pid_small, pid_large}
use Rattle.host_words.proofs.pids.narrow.Goals as goal

pub returns-then-pid-lt65535 : goal.returns-then-pid-lt65535
returns-then-pid-lt65535 c = search pid_small

pub returns-else-pid-lt65535 : goal.returns-else-pid-lt65535
returns-else-pid-lt65535 c = search pid_large

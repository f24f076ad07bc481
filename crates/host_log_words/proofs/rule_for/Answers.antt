use Rattle.host_log_words.proofs.Laws.{rule_said, rule_none}
use Rattle.host_log_words.proofs.rule_for.Goals as goal

pub returns-then-pids-lt3 : goal.returns-then-pids-lt3
returns-then-pids-lt3 c = search rule_said

pub returns-else-pids-lt3 : goal.returns-else-pids-lt3
returns-else-pids-lt3 c = search rule_none

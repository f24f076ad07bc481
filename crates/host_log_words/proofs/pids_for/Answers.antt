use Rattle.host_log_words.proofs.Laws.{pids_without_lem, pids_before, pids_with}
use Rattle.host_log_words.proofs.pids_for.Goals as goal

pub returns-then-pids-eq1 : goal.returns-then-pids-eq1
returns-then-pids-eq1 c = search pids_without_lem

pub returns-then-pids-eq2 : goal.returns-then-pids-eq2
returns-then-pids-eq2 c = search pids_before

pub returns : goal.returns
returns c = search pids_with

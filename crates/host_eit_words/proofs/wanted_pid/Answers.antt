use Rattle.host_eit_words.proofs.Laws.{pid_free, pid_without, pid_exact}
use Rattle.host_eit_words.proofs.wanted_pid.Goals as goal

pub returns-then-word-eq-FREE : goal.returns-then-word-eq-FREE
returns-then-word-eq-FREE c = search pid_free

pub returns-then-word-eq4294967295 : goal.returns-then-word-eq4294967295
returns-then-word-eq4294967295 c = search pid_without

pub returns : goal.returns
returns c = search pid_exact

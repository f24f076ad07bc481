use Rattle.streams.proofs.Laws.{second_word, third_word, fourth_word, pid_gone, pid_stays}
use Rattle.streams.proofs.inner.give_pid.Goals as goal

pub bounds-pids-at-then-bit-eq1 : goal.bounds-pids-at-then-bit-eq1
bounds-pids-at-then-bit-eq1 c = search second_word

pub bounds-pids-at-then-bit-eq1-2 : goal.bounds-pids-at-then-bit-eq1-2
bounds-pids-at-then-bit-eq1-2 c = search third_word

pub bounds-pids-at-then-bit-eq1-3 : goal.bounds-pids-at-then-bit-eq1-3
bounds-pids-at-then-bit-eq1-3 c = search fourth_word

pub returns-then-bit-eq1 : goal.returns-then-bit-eq1
returns-then-bit-eq1 c = search pid_gone

pub returns-else-bit-eq1 : goal.returns-else-bit-eq1
returns-else-bit-eq1 c = search pid_stays

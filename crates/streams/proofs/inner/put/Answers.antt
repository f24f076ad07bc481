use Rattle.streams.proofs.Laws.{second_word, third_word, fourth_word}
use Rattle.streams.proofs.inner.put.Goals as goal

pub bounds-pids-at-2 : goal.bounds-pids-at-2
bounds-pids-at-2 c = search second_word

pub bounds-pids-at-3 : goal.bounds-pids-at-3
bounds-pids-at-3 c = search third_word

pub bounds-pids-at-4 : goal.bounds-pids-at-4
bounds-pids-at-4 c = search fourth_word

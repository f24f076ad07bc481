use Rattle.passing.proofs.Laws.{pid_watched, words_stay, pid_unwatched, words_go}
use Rattle.passing.proofs.pass_pid.Goals as goal

pub returns-then-has : goal.returns-then-has
returns-then-has c = record { value = search pid_watched; pids_after = search words_stay }

pub returns : goal.returns
returns c = record { value = search pid_unwatched; pids_after = search words_go }

use Rattle.laid.proofs.Ways.{pid_some, pid_none}
use Rattle.laid.proofs.pid_word.Goals as goal

pub returns-in-None : goal.returns-in-None
returns-in-None c = search pid_none

pub returns-in-Some : goal.returns-in-Some
returns-in-Some c = search pid_some

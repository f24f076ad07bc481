use Rattle.rows.proofs.Loops.{elder_new, elder_old}
use Rattle.rows.proofs.elder.Goals as goal

pub returns-then-tick : goal.returns-then-tick
returns-then-tick c = search elder_new

pub returns-else-tick : goal.returns-else-tick
returns-else-tick c = search elder_old

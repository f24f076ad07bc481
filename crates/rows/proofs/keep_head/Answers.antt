use Rattle.rows.proofs.Loops.{head_fresh, head_known}
use Rattle.rows.proofs.keep_head.Goals as goal

pub returns-then-room : goal.returns-then-room
returns-then-room c = search head_fresh

pub returns-else-room : goal.returns-else-room
returns-else-room c = search head_known

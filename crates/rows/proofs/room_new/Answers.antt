use Rattle.rows.proofs.Loops.{room_added, room_evicted}
use Rattle.rows.proofs.room_new.Goals as goal

pub returns-then-used-limit : goal.returns-then-used-limit
returns-then-used-limit c = search room_added

pub returns-else-used-limit : goal.returns-else-used-limit
returns-else-used-limit c = search room_evicted

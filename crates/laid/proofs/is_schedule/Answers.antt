use Rattle.laid.proofs.Ways.{joined_first}
use Rattle.laid.proofs.Ways.{schedule_is, schedule_not}
use Rattle.laid.proofs.is_schedule.Goals as goal

pub bounds-s-0 : goal.bounds-s-0
bounds-s-0 c = search joined_first

pub returns-then-joined : goal.returns-then-joined
returns-then-joined c = search schedule_is

pub returns-else-joined : goal.returns-else-joined
returns-else-joined c = search schedule_not

use Rattle.schedules.proofs.Laws.{ready_kept, ready_new, ready_refilled}
use Rattle.schedules.proofs.ready_units.Goals as goal

pub returns-then-r : goal.returns-then-r
returns-then-r c = search ready_refilled

pub returns-else-r : goal.returns-else-r
returns-else-r c = search ready_new

pub returns-else-room : goal.returns-else-room
returns-else-room c = search ready_kept

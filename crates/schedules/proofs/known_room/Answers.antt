use Rattle.schedules.proofs.Laws.{known_same, known_other}
use Rattle.schedules.proofs.known_room.Goals as goal

pub returns-then-last-e : goal.returns-then-last-e
returns-then-last-e c = search known_same

pub returns-else-last-e : goal.returns-else-last-e
returns-else-last-e c = search known_other

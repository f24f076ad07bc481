use Rattle.schedules.proofs.Laws.{room_known_lem, room_new_lem}
use Rattle.schedules.proofs.find_room.Goals as goal

pub returns-then-k-held : goal.returns-then-k-held
returns-then-k-held c = search room_known_lem

pub returns-else-k-held : goal.returns-else-k-held
returns-else-k-held c = search room_new_lem

use Rattle.units.proofs.Laws.{set_put, some_slots, few_slots, room_for_slots}
use Rattle.units.proofs.put_set.Goals as goal

pub put_slots-requires : goal.put_slots-requires
put_slots-requires c = search room_for_slots

pub overflow_sub-part : goal.overflow_sub-part
overflow_sub-part c = search some_slots

pub overflow_cast-part : goal.overflow_cast-part
overflow_cast-part c = search few_slots

pub returns : goal.returns
returns c = search set_put

use Rattle.readers.proofs.Ways.{slot_next, slot_past}
use Rattle.readers.proofs.next_slot.Goals as goal

pub returns-then-from-slots : goal.returns-then-from-slots
returns-then-from-slots c = search slot_next

pub returns : goal.returns
returns c = search slot_past

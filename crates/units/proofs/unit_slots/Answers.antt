use Rattle.units.proofs.Laws.{unit_part}
use Rattle.units.proofs.unit_slots.Goals as goal

pub returns : goal.returns
returns c = search unit_part

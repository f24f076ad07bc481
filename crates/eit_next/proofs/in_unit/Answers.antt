use Rattle.eit_next.proofs.Ways.{unit_there, unit_absent}
use Rattle.eit_next.proofs.in_unit.Goals as goal

pub returns-then-is_present : goal.returns-then-is_present
returns-then-is_present c = search unit_there

pub returns : goal.returns
returns c = search unit_absent

use Rattle.units.proofs.Laws.{unit_marked, unit_passed}
use Rattle.units.proofs.mark_unit.Goals as goal

pub returns-then-is_present : goal.returns-then-is_present
returns-then-is_present c = search unit_marked

pub returns-else-is_present : goal.returns-else-is_present
returns-else-is_present c = search unit_passed

use Rattle.units.proofs.Laws.{unit_single, unit_whole_there, unit_whole_not}
use Rattle.units.proofs.unit_whole.Goals as goal

pub returns-then-single_whole : goal.returns-then-single_whole
returns-then-single_whole c = search unit_single

pub returns-then-is_present : goal.returns-then-is_present
returns-then-is_present c = search unit_whole_there

pub returns : goal.returns
returns c = search unit_whole_not

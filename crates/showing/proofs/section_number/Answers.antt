use Rattle.showing.proofs.Ways.{number_none}
use Rattle.showing.proofs.section_number.Goals as goal

pub returns : goal.returns
returns c = search number_none

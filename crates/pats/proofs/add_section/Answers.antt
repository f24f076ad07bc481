use Rattle.pats.proofs.Ways.{section_added}
use Rattle.pats.proofs.add_section.Goals as goal

pub returns : goal.returns
returns c = search section_added

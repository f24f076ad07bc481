use Rattle.guides.proofs.Ways.{section_first, section_second}
use Rattle.guides.proofs.section_of.Goals as goal

pub returns-then-h-eq1 : goal.returns-then-h-eq1
returns-then-h-eq1 c = search section_first

pub returns : goal.returns
returns c = search section_second

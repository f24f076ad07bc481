use Rattle.eit_section.proofs.Laws.{read_none, read_some}
use Rattle.eit_section.proofs.read.Goals as goal

pub returns-in_default : goal.returns-in_default
returns-in_default c = search read_none

pub returns : goal.returns
returns c = search read_some

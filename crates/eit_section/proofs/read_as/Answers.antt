use Rattle.eit_section.proofs.Laws.{read_broken, read_good, layout_long}
use Rattle.eit_section.proofs.read_as.Goals as goal

pub returns-then-not-is_laid_out : goal.returns-then-not-is_laid_out
returns-then-not-is_laid_out c = search read_broken

pub fields-requires : goal.fields-requires
fields-requires c = search layout_long

pub returns : goal.returns
returns c = search read_good

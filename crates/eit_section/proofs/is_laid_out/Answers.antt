-- `eit_section::is_laid_out` meets its contract. Assumes nothing.
use Rattle.eit_section.proofs.Laws.{layout_short, layout_events}
use Rattle.eit_section.proofs.is_laid_out.Goals as goal

pub returns-then-s-lt18 : goal.returns-then-s-lt18
returns-then-s-lt18 c = search layout_short

pub returns : goal.returns
returns c = search layout_events

use Rattle.segments.proofs.Laws.{section_kept}
use Rattle.segments.proofs.keep_section.Goals as goal

pub returns : goal.returns
returns c = search section_kept

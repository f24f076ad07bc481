use Rattle.segments.proofs.Laws.{set_segments}
use Rattle.segments.proofs.set_complete.Goals as goal

pub returns : goal.returns
returns c = search set_segments

use Rattle.segments.proofs.Laws.{filled_part}
use Rattle.segments.proofs.filled_to.Goals as goal

pub returns : goal.returns
returns c = search filled_part

use Rattle.payload.proofs.Laws.{joined}
use Rattle.payload.proofs.join.Goals as goal

pub returns : goal.returns
returns c = search joined

use Rattle.pats.proofs.Ways.{collected}
use Rattle.pats.proofs.collect.Goals as goal

pub returns : goal.returns
returns c = search collected

use Rattle.pats.proofs.Ways.{sets_are}
use Rattle.pats.proofs.pat_sets.Goals as goal

pub returns : goal.returns
returns c = search sets_are

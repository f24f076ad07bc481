use Rattle.pats.proofs.Ways.{full_is}
use Rattle.pats.proofs.is_full.Goals as goal

pub returns : goal.returns
returns c = search full_is

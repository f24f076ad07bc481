use Rattle.sets_settle.proofs.Doing.{goes}
use Rattle.sets_settle.proofs.goes_out.Goals as goal

pub returns : goal.returns
returns c = search goes

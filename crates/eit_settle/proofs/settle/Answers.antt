use Rattle.eit_settle.proofs.Ways.{settle_done}
use Rattle.eit_settle.proofs.settle.Goals as goal

pub returns : goal.returns
returns c = search settle_done

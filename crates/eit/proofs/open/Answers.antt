use Rattle.eit.proofs.Calls.{opened_done}
use Rattle.eit.proofs.open.Goals as goal

pub returns : goal.returns
returns c = search opened_done

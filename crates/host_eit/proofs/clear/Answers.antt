use Rattle.host_eit.proofs.Calls.{eit_cleared_lem}
use Rattle.host_eit.proofs.clear.Goals as goal

pub returns : goal.returns
returns c = search eit_cleared_lem

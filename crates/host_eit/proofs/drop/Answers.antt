use Rattle.host_eit.proofs.Calls.{eit_dropped_lem}
use Rattle.host_eit.proofs.drop.Goals as goal

pub returns : goal.returns
returns c = search eit_dropped_lem

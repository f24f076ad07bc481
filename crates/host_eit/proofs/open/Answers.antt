use Rattle.host_eit.proofs.Calls.{eit_opened_lem}
use Rattle.host_eit.proofs.open.Goals as goal

pub returns : goal.returns
returns c = search eit_opened_lem

use Rattle.host_eit.proofs.Calls.{eit_next_lem}
use Rattle.host_eit.proofs.next.Goals as goal

pub returns : goal.returns
returns c = search eit_next_lem

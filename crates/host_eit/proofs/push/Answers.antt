use Rattle.host_eit.proofs.Calls.{eit_pushed_lem}
use Rattle.host_eit.proofs.push.Goals as goal

pub returns : goal.returns
returns c = search eit_pushed_lem

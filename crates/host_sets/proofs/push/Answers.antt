use Rattle.host_sets.proofs.Calls.{sets_pushed_lem}
use Rattle.host_sets.proofs.push.Goals as goal

pub returns : goal.returns
returns c = search sets_pushed_lem

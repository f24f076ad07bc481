use Rattle.host_sets.proofs.Calls.{sets_cleared_lem}
use Rattle.host_sets.proofs.clear.Goals as goal

pub returns : goal.returns
returns c = search sets_cleared_lem

use Rattle.host_guides.proofs.Calls.{sets_compared_lem}
use Rattle.host_guides.proofs.compare.Goals as goal

pub returns : goal.returns
returns c = search sets_compared_lem

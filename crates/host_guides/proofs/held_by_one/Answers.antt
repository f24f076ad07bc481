use Rattle.host_guides.proofs.Calls.{held_one_lem}
use Rattle.host_guides.proofs.held_by_one.Goals as goal

pub returns : goal.returns
returns c = search held_one_lem

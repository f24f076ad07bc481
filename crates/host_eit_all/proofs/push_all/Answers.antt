use Rattle.host_eit_all.proofs.Calls.{all_left_lem}
use Rattle.host_eit_all.proofs.push_all.Goals as goal

pub returns : goal.returns
returns c = search all_left_lem

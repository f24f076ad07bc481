use Rattle.host_sets.proofs.Calls.{sets_next_lem}
use Rattle.host_sets.proofs.next.Goals as goal

pub returns : goal.returns
returns c = search sets_next_lem

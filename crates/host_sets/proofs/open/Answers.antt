use Rattle.host_sets.proofs.Calls.{sets_opened_lem}
use Rattle.host_sets.proofs.open.Goals as goal

pub returns : goal.returns
returns c = search sets_opened_lem

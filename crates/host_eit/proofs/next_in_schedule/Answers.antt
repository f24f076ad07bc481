use Rattle.host_eit.proofs.Calls.{eit_next_in_lem}
use Rattle.host_eit.proofs.next_in_schedule.Goals as goal

pub returns : goal.returns
returns c = search eit_next_in_lem

use Rattle.host_showing.proofs.Calls.{set_listed_lem}
use Rattle.host_showing.proofs.eit_events.Goals as goal

pub returns : goal.returns
returns c = search set_listed_lem

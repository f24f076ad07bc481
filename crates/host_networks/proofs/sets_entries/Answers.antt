use Rattle.host_networks.proofs.Calls.{set_read_lem}
use Rattle.host_networks.proofs.sets_entries.Goals as goal

pub returns : goal.returns
returns c = search set_read_lem

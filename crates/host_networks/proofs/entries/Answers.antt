use Rattle.host_networks.proofs.Calls.{section_read_lem}
use Rattle.host_networks.proofs.entries.Goals as goal

pub returns : goal.returns
returns c = search section_read_lem

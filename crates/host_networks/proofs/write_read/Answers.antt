use Rattle.host_networks.proofs.Calls.{read_kept, read_written}
use Rattle.host_networks.proofs.write_read.Goals as goal

pub returns-then-number : goal.returns-then-number
returns-then-number c = search read_kept

pub returns : goal.returns
returns c = search read_written

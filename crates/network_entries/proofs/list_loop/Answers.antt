use Rattle.network_entries.proofs.Ways.{loop_listed, loop_few}
use Rattle.network_entries.proofs.list_loop.Goals as goal

pub returns : goal.returns
returns c = (search loop_listed, search loop_few)

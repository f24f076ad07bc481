use Rattle.laid.proofs.Ways.{key_first}
use Rattle.laid.proofs.key_in.Goals as goal

pub returns : goal.returns
returns c = search key_first

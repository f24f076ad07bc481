use Rattle.laid.proofs.Ways.{key_made}
use Rattle.laid.proofs.key_of.Goals as goal

pub returns : goal.returns
returns c = search key_made

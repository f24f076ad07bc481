use Rattle.laid.proofs.Ways.{set_after_lem}
use Rattle.laid.proofs.in_set.Goals as goal

pub returns : goal.returns
returns c = search set_after_lem

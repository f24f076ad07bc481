use Rattle.guides.proofs.Ways.{set_or_none}
use Rattle.guides.proofs.set_or_empty.Goals as goal

pub returns : goal.returns
returns c = search set_or_none

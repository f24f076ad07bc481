use Rattle.guides.proofs.Ways.{held_where}
use Rattle.guides.proofs.inner.held_by.Goals as goal

pub returns : goal.returns
returns c = search held_where

use Rattle.laid.specs.Laid.{is_set}
use Rattle.laid.proofs.is_set.Goals as goal

pub returns : goal.returns
unfolding is_set
returns c = c.joined.ensures

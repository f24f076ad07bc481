use mathlib.Core.Path.{refl}
use Rattle.ring_index.specs.Store.{linked}
use Rattle.ring_index.proofs.link.Goals as goal

pub returns : goal.returns
unfolding linked
returns c = refl

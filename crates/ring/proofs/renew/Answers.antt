use mathlib.Core.Path.{refl}
use Rattle.ring.specs.Store.{renewed}
use Rattle.ring.proofs.renew.Goals as goal

pub returns : goal.returns
unfolding renewed
returns c = (record { value = refl; changes_after = refl })

use Rattle.schedules.proofs.Laws.{units_put}
use Rattle.schedules.proofs.put_units.Goals as goal

pub returns : goal.returns
returns c = search units_put

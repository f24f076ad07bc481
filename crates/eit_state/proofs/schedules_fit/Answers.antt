use Rattle.eit_state.proofs.Whole.{fitting}
use Rattle.eit_state.proofs.schedules_fit.Goals as goal

pub returns : goal.returns
returns c = search fitting

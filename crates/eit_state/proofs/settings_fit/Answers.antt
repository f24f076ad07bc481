use Rattle.eit_state.proofs.Whole.{settings}
use Rattle.eit_state.proofs.settings_fit.Goals as goal

pub returns : goal.returns
returns c = search settings

use Rattle.eit_state.proofs.Ways.{rises}
use Rattle.eit_state.proofs.risen.Goals as goal

pub returns : goal.returns
returns c = search rises

use Rattle.log_state.proofs.Laws.{can_open_lem}
use Rattle.log_state.proofs.can_open.Goals as goal

pub returns : goal.returns
returns c = search can_open_lem

use Rattle.gate_state.specs.State.{seen_by}
use Rattle.gate_state.proofs.tell.Goals as goal

pub returns : goal.returns
unfolding seen_by
returns c = cc

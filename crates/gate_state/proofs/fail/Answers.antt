use Rattle.gate_state.proofs.fail.Goals as goal

pub returns : goal.returns
returns c = cc

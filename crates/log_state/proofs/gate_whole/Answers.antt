use Rattle.log_state.proofs.gate_whole.Goals as goal

pub returns : goal.returns
returns c = cc

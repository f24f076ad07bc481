use Rattle.gate_state.proofs.begin.Goals as goal

pub returns : goal.returns
returns c = cc

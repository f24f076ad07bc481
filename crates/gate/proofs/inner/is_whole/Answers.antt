use Rattle.gate.proofs.inner.is_whole.Goals as goal

pub returns : goal.returns
returns c = cc

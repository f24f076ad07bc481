use Rattle.gate_indexed.proofs.inner.is_whole.Goals as goal

pub returns : goal.returns
returns c = cc

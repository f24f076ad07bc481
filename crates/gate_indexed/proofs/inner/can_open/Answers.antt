use Rattle.gate_indexed.proofs.inner.can_open.Goals as goal

pub returns : goal.returns
returns c = cc

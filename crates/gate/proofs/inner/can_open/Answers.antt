use Rattle.gate.proofs.inner.can_open.Goals as goal

pub returns : goal.returns
returns c = cc

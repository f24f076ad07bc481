use Rattle.ring.proofs.is_whole.Goals as goal

pub returns : goal.returns
returns c = cc

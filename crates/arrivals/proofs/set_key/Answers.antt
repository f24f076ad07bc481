use Rattle.arrivals.proofs.set_key.Goals as goal

pub returns : goal.returns
returns c = cc

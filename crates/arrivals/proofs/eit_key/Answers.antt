use Rattle.arrivals.proofs.eit_key.Goals as goal

pub returns : goal.returns
returns c = cc

use Rattle.offers.proofs.arrive.Goals as goal

pub returns : goal.returns
returns c = cc

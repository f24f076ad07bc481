use Rattle.counters.proofs.counted.Goals as goal

pub returns : goal.returns
returns c = cc

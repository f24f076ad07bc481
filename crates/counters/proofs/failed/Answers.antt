use Rattle.counters.proofs.failed.Goals as goal

pub returns : goal.returns
returns c = cc

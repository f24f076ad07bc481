use Rattle.counters.proofs.plus.Goals as goal

pub returns-then-more : goal.returns-then-more
returns-then-more c = simp c.if-more.true

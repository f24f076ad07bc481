use Rattle.counts_collect.proofs.Ways.{to_eit, to_sets}
use Rattle.counts_collect.proofs.collect.Goals as goal

pub returns-then-is_eit : goal.returns-then-is_eit
returns-then-is_eit c = search to_eit

pub returns : goal.returns
returns c = search to_sets

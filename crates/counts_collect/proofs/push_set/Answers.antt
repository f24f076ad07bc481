use Rattle.counts_collect.proofs.Ways.{set_pushed}
use Rattle.counts_collect.proofs.push_set.Goals as goal

pub returns : goal.returns
returns c = search set_pushed

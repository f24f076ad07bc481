use Rattle.counts_collect.proofs.Ways.{eit_pushed_lem}
use Rattle.counts_collect.proofs.push_eit.Goals as goal

pub returns : goal.returns
returns c = search eit_pushed_lem

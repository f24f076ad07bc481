use Rattle.filter.proofs.Laws.{head_removed}
use Rattle.filter.proofs.remove_head.Goals as goal

pub returns : goal.returns
returns c = search head_removed

use Rattle.eit_drop.proofs.Laws.{matching_left}
use Rattle.eit_drop.proofs.drop_matching.Goals as goal

pub returns : goal.returns
returns c = search matching_left

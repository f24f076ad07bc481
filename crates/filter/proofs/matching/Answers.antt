use Rattle.filter.proofs.Laws.{all_match}
use Rattle.filter.proofs.matching.Goals as goal

pub returns : goal.returns
returns c = search all_match

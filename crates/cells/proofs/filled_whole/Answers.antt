use Rattle.cells.proofs.Laws.{filled_whole}
use Rattle.cells.proofs.filled_whole.Goals as goal

pub returns : goal.returns
returns c = search filled_whole

use Rattle.cells.proofs.Laws.{word_whole}
use Rattle.cells.proofs.slot_whole.Goals as goal

pub returns : goal.returns
returns c = search word_whole

use Rattle.laid.proofs.Ways.{word_there}
use Rattle.laid.proofs.word_if.Goals as goal

pub returns-then-eit : goal.returns-then-eit
returns-then-eit c = search word_there

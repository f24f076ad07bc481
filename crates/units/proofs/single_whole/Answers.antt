use Rattle.units.proofs.Laws.{single_whole}
use Rattle.units.proofs.single_whole.Goals as goal

pub returns : goal.returns
returns c = search single_whole

use Rattle.log_check.proofs.Laws.{beside_laid, beside_passed}
use Rattle.log_check.proofs.beside.Goals as goal

pub compare-requires : goal.compare-requires
compare-requires c = search beside_laid

pub returns : goal.returns
returns c = search beside_passed

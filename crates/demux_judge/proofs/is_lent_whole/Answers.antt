use Rattle.demux_judge.proofs.Laws.{lent_whole_lem}
use Rattle.demux_judge.proofs.is_lent_whole.Goals as goal

pub returns : goal.returns
returns c = search lent_whole_lem

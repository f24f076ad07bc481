use Rattle.demux_judge.proofs.Laws.{all_whole_lem}
use Rattle.demux_judge.proofs.is_whole.Goals as goal

pub returns : goal.returns
returns c = search all_whole_lem

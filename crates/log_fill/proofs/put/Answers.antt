use Rattle.log_fill.proofs.Laws.{put_done}
use Rattle.log_fill.proofs.put.Goals as goal

pub returns : goal.returns
returns c = search put_done

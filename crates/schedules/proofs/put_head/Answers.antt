use Rattle.schedules.proofs.Laws.{head_put}
use Rattle.schedules.proofs.put_head.Goals as goal

pub returns : goal.returns
returns c = search head_put

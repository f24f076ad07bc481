use Rattle.log_makers.proofs.Laws.{headed_read}
use Rattle.log_makers.proofs.headed.Goals as goal

pub returns : goal.returns
returns c = search headed_read

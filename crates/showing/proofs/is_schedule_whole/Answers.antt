use Rattle.showing.proofs.Ways.{schedule_whole_lem}
use Rattle.showing.proofs.is_schedule_whole.Goals as goal

pub returns : goal.returns
returns c = search schedule_whole_lem

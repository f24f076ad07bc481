use Rattle.schedules.proofs.Laws.{schedule_single, schedule_each}
use Rattle.schedules.proofs.schedule_whole.Goals as goal

pub returns-then-single_whole : goal.returns-then-single_whole
returns-then-single_whole c = search schedule_single

pub returns : goal.returns
returns c = search schedule_each

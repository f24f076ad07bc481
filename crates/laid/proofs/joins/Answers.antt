use Rattle.laid.proofs.Ways.{joins_schedule, joins_set}
use Rattle.laid.proofs.joins.Goals as goal

pub returns-then-schedule : goal.returns-then-schedule
returns-then-schedule c = search joins_schedule

pub returns-else-schedule : goal.returns-else-schedule
returns-else-schedule c = search joins_set

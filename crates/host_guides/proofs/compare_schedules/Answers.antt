use Rattle.host_guides.proofs.Calls.{schedules_compared_lem}
use Rattle.host_guides.proofs.compare_schedules.Goals as goal

pub returns : goal.returns
returns c = search schedules_compared_lem

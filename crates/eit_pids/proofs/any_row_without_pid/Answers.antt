use Rattle.eit_pids.proofs.Heads.{either_without}
use Rattle.eit_pids.proofs.any_row_without_pid.Goals as goal

pub returns : goal.returns
returns c = search either_without

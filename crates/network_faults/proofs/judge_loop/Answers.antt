use Rattle.network_faults.proofs.Ways.{loop_inside, loop_told}
use Rattle.network_faults.proofs.judge_loop.Goals as goal

pub ended_well-requires : goal.ended_well-requires
ended_well-requires c = search loop_inside

pub returns : goal.returns
returns c = search loop_told

use Rattle.network_faults.proofs.Ways.{judged_own, judged_other}
use Rattle.network_faults.proofs.judge.Goals as goal

pub returns-then-is_of : goal.returns-then-is_of
returns-then-is_of c = search judged_own

pub returns : goal.returns
returns c = search judged_other

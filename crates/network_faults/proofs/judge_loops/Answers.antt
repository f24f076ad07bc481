use Rattle.network_faults.proofs.Ways.{loops_nit, loops_bat, loops_sdt}
use Rattle.network_faults.proofs.judge_loops.Goals as goal

pub returns-in-Nit : goal.returns-in-Nit
returns-in-Nit c = search loops_nit

pub returns-in-Bat : goal.returns-in-Bat
returns-in-Bat c = search loops_bat

pub returns-in-Sdt : goal.returns-in-Sdt
returns-in-Sdt c = search loops_sdt

use Rattle.packet.proofs.Laws.{pid_made_lem}
use Rattle.packet.proofs.pid.Goals as goal

pub returns : goal.returns
returns c = search pid_made_lem

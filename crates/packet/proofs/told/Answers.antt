use Rattle.packet.proofs.Laws.{load_told}
use Rattle.packet.proofs.told.Goals as goal

pub returns : goal.returns
returns c = search load_told

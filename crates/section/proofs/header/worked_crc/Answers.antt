use Rattle.section.proofs.Laws.{worked_made}
use Rattle.section.proofs.header.worked_crc.Goals as goal

pub returns : goal.returns
returns c = worked_made _ _ c.crc.ensures

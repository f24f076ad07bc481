use Rattle.packet.proofs.Laws.{behind_field, behind_header}
use Rattle.packet.proofs.payload_at.Goals as goal

pub returns-then-control-eq1 : goal.returns-then-control-eq1
returns-then-control-eq1 c = search behind_field

pub returns-else-control-eq1 : goal.returns-else-control-eq1
returns-else-control-eq1 c = search behind_header

use Rattle.demux_places.proofs.Laws.{in_packet, in_buffers}
use Rattle.demux_places.proofs.section_at.Goals as goal

pub returns-then-place-eq-IN_PACKET : goal.returns-then-place-eq-IN_PACKET
returns-then-place-eq-IN_PACKET c = search in_packet

pub returns : goal.returns
returns c = search in_buffers

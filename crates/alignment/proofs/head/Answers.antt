use Rattle.alignment.proofs.Laws.{a_packet, a_loose, is_last, needs_more}
use Rattle.alignment.proofs.head.Goals as goal

pub returns-then-window-eq-SYNC_BYTE : goal.returns-then-window-eq-SYNC_BYTE
returns-then-window-eq-SYNC_BYTE c = search a_packet

pub returns-then-window-ge-PACKET_BYTES : goal.returns-then-window-ge-PACKET_BYTES
returns-then-window-ge-PACKET_BYTES c = search a_loose

pub returns-then-last : goal.returns-then-last
returns-then-last c = search is_last

pub returns : goal.returns
returns c = search needs_more

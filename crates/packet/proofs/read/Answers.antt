use Rattle.packet.proofs.Laws.{no_length, no_sync, no_room, a_load, no_use}
use Rattle.packet.proofs.read.Goals as goal

pub returns-then-p-ne-PACKET_BYTES : goal.returns-then-p-ne-PACKET_BYTES
returns-then-p-ne-PACKET_BYTES c = search no_length

pub returns-then-p-ne-SYNC_BYTE : goal.returns-then-p-ne-SYNC_BYTE
returns-then-p-ne-SYNC_BYTE c = search no_sync

pub returns-then-from-gt-PACKET_BYTES : goal.returns-then-from-gt-PACKET_BYTES
returns-then-from-gt-PACKET_BYTES c = search no_room

pub returns-then-is_readable : goal.returns-then-is_readable
returns-then-is_readable c = search a_load

pub returns-else-is_readable : goal.returns-else-is_readable
returns-else-is_readable c = search no_use

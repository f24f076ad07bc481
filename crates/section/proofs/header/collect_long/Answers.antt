use Rattle.section.proofs.Laws.{long_crc, long_good, long_number}
use Rattle.section.proofs.header.collect_long.Goals as goal

pub returns-then-s : goal.returns-then-s
returns-then-s c = search long_number

pub returns-then-worked_crc-stored_crc : goal.returns-then-worked_crc-stored_crc
returns-then-worked_crc-stored_crc c = search long_good

pub returns-else-worked_crc-stored_crc : goal.returns-else-worked_crc-stored_crc
returns-else-worked_crc-stored_crc c = search long_crc

use Rattle.section.proofs.Laws.{change_checked, change_headed, change_plain, checked_crc, headed_crc}
use Rattle.section.proofs.header.change_number.Goals as goal

pub stored_crc-requires : goal.stored_crc-requires
stored_crc-requires c = search headed_crc

pub checked_change-requires : goal.checked_change-requires
checked_change-requires c = search checked_crc

pub returns-in-Headed : goal.returns-in-Headed
returns-in-Headed c = search change_headed

pub returns-in-Checked : goal.returns-in-Checked
returns-in-Checked c = search change_checked

pub returns-in-Plain : goal.returns-in-Plain
returns-in-Plain c = search change_plain

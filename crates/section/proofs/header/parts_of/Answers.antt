use Rattle.section.proofs.Laws.{headed_long, parts_checked, parts_headed, parts_plain}
use Rattle.section.proofs.header.parts_of.Goals as goal

pub headed_parts-requires : goal.headed_parts-requires
headed_parts-requires c = search headed_long

pub returns-in-Headed : goal.returns-in-Headed
returns-in-Headed c = search parts_headed

pub returns-in-Checked : goal.returns-in-Checked
returns-in-Checked c = search parts_checked

pub returns-in-Plain : goal.returns-in-Plain
returns-in-Plain c = search parts_plain

use Rattle.section.proofs.Laws.{crc_mismatch, crc_short, crc_sound, holds_crc}
use borrow.Author.Rules.{rules}
use Rattle.section.proofs.header.judge_crc.Goals as goal

pub returns-then-s-lt4 : goal.returns-then-s-lt4
returns-then-s-lt4 c = search crc_short

pub parts_of-requires : goal.parts_of-requires
parts_of-requires c = (record { f_value = search rules; holds = search holds_crc })

pub returns-then-stored-worked : goal.returns-then-stored-worked
returns-then-stored-worked c = search crc_sound

pub returns-else-stored-worked : goal.returns-else-stored-worked
returns-else-stored-worked c = search crc_mismatch

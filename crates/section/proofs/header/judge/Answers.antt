use Rattle.section.proofs.Laws.{holds_plain, judged_checked, judged_headed, judged_plain, judged_short}
use borrow.Author.Rules.{rules}
use Rattle.section.proofs.header.judge.Goals as goal

pub returns-then-s-lt3 : goal.returns-then-s-lt3
returns-then-s-lt3 c = search judged_short

pub parts_of-requires : goal.parts_of-requires
parts_of-requires c = (record { f_value = search rules; holds = search holds_plain })

pub returns-in-Headed : goal.returns-in-Headed
returns-in-Headed c = search judged_headed

pub returns-in-Checked : goal.returns-in-Checked
returns-in-Checked c = search judged_checked

pub returns-in-Plain : goal.returns-in-Plain
returns-in-Plain c = search judged_plain

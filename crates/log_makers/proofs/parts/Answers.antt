use Rattle.log_makers.proofs.Laws.{parts_none, parts_headed, parts_long, parts_tot, parts_plain}
use Rattle.log_makers.proofs.parts.Goals as goal

pub returns-then-s-lt3 : goal.returns-then-s-lt3
returns-then-s-lt3 c = search parts_none

pub returns-then-s-ge12 : goal.returns-then-s-ge12
returns-then-s-ge12 c = search parts_headed

pub returns-then-long_form : goal.returns-then-long_form
returns-then-long_form c = search parts_long

pub returns-then-s-eq115 : goal.returns-then-s-eq115
returns-then-s-eq115 c = search parts_tot

pub returns : goal.returns
returns c = search parts_plain

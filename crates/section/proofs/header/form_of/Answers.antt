use Rattle.section.proofs.Laws.{form_headed, form_long, form_tot, form_plain}
use Rattle.section.proofs.header.form_of.Goals as goal

pub returns-then-s-ge12 : goal.returns-then-s-ge12
returns-then-s-ge12 c = search form_headed

pub returns-then-long_form : goal.returns-then-long_form
returns-then-long_form c = search form_long

pub returns-then-s-eq115 : goal.returns-then-s-eq115
returns-then-s-eq115 c = search form_tot

pub returns : goal.returns
returns c = search form_plain

use Rattle.section.proofs.Laws.{under_3, three_or_more}
use Rattle.section.proofs.header.is_malformed.Goals as goal

pub returns-then-s-lt3 : goal.returns-then-s-lt3
returns-then-s-lt3 c = search under_3

pub returns : goal.returns
returns c = three_or_more c.args.s.now _ _ c.if-s-lt3.false c.section_length.ensures.0 c.section_length.ensures.1 c.long_form.ensures

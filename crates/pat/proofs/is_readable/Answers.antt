-- `pat::is_readable` meets its contract. Assumes nothing.
use Rattle.pat.proofs.Laws.{readable_short, readable_rest}
use Rattle.pat.proofs.is_readable.Goals as goal

pub returns-then-s-lt12 : goal.returns-then-s-lt12
returns-then-s-lt12 c = readable_short c.args.s.now c.if-s-lt12.true

pub returns : goal.returns
returns c = readable_rest c.args.s.now c.section_length.result c.if-s-lt12.false c.section_length.ensures.0

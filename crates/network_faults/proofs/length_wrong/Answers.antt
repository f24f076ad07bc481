use Rattle.network_faults.proofs.Ways.{wrong_short, wrong_other}
use Rattle.network_faults.proofs.length_wrong.Goals as goal

pub returns-then-s-lt3 : goal.returns-then-s-lt3
returns-then-s-lt3 c = search wrong_short

pub returns : goal.returns
returns c = wrong_other c.args.s.now _ c.if-s-lt3.false c.section_length.ensures.0 c.section_length.ensures.1

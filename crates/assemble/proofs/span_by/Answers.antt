use Rattle.assemble.proofs.Laws.{goes_on_lem, jumps}
use Rattle.assemble.proofs.span_by.Goals as goal

pub returns-then-follows : goal.returns-then-follows
returns-then-follows c = search goes_on_lem

pub returns : goal.returns
returns c = search jumps

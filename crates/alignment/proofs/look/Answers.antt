use Rattle.alignment.proofs.Laws.{passes, heads}
use Rattle.alignment.proofs.look.Goals as goal

pub returns-then-passing : goal.returns-then-passing
returns-then-passing c = search passes

pub returns : goal.returns
returns c = search heads

use Rattle.pats.proofs.Ways.{clock_none, clock_there}
use Rattle.pats.proofs.clock_of.Goals as goal

pub returns-then-words-eq0 : goal.returns-then-words-eq0
returns-then-words-eq0 c = search clock_none

pub returns : goal.returns
returns c = search clock_there

use Rattle.streams.proofs.Laws.{mark_some, mark_none}
use Rattle.streams.proofs.inner.mark.Goals as goal

pub returns-then-b-count : goal.returns-then-b-count
returns-then-b-count c = search mark_some

pub returns-else-b-count : goal.returns-else-b-count
returns-else-b-count c = search mark_none

-- `watched::inner::add_known` meets its contract: the eight are PIDs. Assumes nothing.
use Rattle.watched.proofs.Laws.{known_good}
use Rattle.watched.proofs.inner.add_known.Goals as goal

pub add_all-requires : goal.add_all-requires
add_all-requires c = rw c.well_known-known.ensures known_good

pub returns-then-on : goal.returns-then-on
returns-then-on c = rw (c.if-on.true, ← c.well_known-known.ensures) c.add_all.ensures

use Rattle.streams.proofs.Laws.{lowest_free_lem}
use Rattle.streams.proofs.inner.lowest_free.Goals as goal

pub returns : goal.returns
returns c = search lowest_free_lem

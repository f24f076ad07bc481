use Rattle.guides.proofs.Ways.{words_kept, words_out}
use Rattle.guides.proofs.inner.write_tables.Goals as goal

pub returns-then-not-full : goal.returns-then-not-full
returns-then-not-full c = search words_out

pub returns-else-not-full : goal.returns-else-not-full
returns-else-not-full c = search words_kept

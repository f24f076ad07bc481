use Rattle.counts_collect.proofs.Ways.{empty, by_table}
use Rattle.counts_collect.proofs.is_eit.Goals as goal

pub returns-then-section-eq0 : goal.returns-then-section-eq0
returns-then-section-eq0 c = search empty

pub returns : goal.returns
returns c = search by_table

use Rattle.guides.proofs.Ways.{list_full, list_left, list_same, list_differ, list_written}
use Rattle.guides.proofs.inner.list_within.Goals as goal

pub returns-then-list-count : goal.returns-then-list-count
returns-then-list-count c = record { value = search list_full; list_after = search list_left }

pub returns-then-count-eq0 : goal.returns-then-count-eq0
returns-then-count-eq0 c = record { value = search list_same; list_after = search list_written }

pub returns-else-count-eq0 : goal.returns-else-count-eq0
returns-else-count-eq0 c = record { value = search list_differ; list_after = search list_written }

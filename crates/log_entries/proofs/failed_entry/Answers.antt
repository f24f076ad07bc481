use Rattle.log_entries.proofs.Laws.{failed_short, failed_mismatch}
use Rattle.log_entries.proofs.failed_entry.Goals as goal

pub returns-then-short : goal.returns-then-short
returns-then-short c = search failed_short

pub returns : goal.returns
returns c = search failed_mismatch

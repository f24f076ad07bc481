use Rattle.log_entries.proofs.Laws.{seen_made}
use Rattle.log_entries.proofs.seen_entry.Goals as goal

pub returns : goal.returns
returns c = search seen_made

use Rattle.log_entries.proofs.Laws.{joined_made}
use Rattle.log_entries.proofs.seen_with.Goals as goal

pub returns : goal.returns
returns c = search joined_made

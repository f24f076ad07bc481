use Rattle.log_entries.proofs.Entries.{joined}
use Rattle.log_entries.proofs.join.Goals as goal

pub returns : goal.returns
returns c = search joined

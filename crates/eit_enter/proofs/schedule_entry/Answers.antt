use Rattle.eit_enter.proofs.Ways.{entry_made}
use Rattle.eit_enter.proofs.schedule_entry.Goals as goal

pub returns : goal.returns
returns c = search entry_made

use Rattle.log_entries.proofs.Entries.{laid_10}
use Rattle.log_entries.proofs.of_10.Goals as goal

pub returns : goal.returns
returns c = search laid_10

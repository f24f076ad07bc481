use Rattle.log_entries.proofs.Entries.{laid_13}
use Rattle.log_entries.proofs.of_13.Goals as goal

pub returns : goal.returns
returns c = search laid_13

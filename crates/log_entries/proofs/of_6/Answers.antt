use Rattle.log_entries.proofs.Entries.{laid_6}
use Rattle.log_entries.proofs.of_6.Goals as goal

pub returns : goal.returns
returns c = search laid_6

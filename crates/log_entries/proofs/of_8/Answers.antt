use Rattle.log_entries.proofs.Entries.{laid_8}
use Rattle.log_entries.proofs.of_8.Goals as goal

pub returns : goal.returns
returns c = search laid_8

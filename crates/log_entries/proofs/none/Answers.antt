use mathlib.Core.List.{[]}
use Rattle.log_entries.proofs.Entries.{laid_0}
use Rattle.log_entries.proofs.none.Goals as goal

pub returns : goal.returns
returns c = laid_0 []

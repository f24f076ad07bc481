use Rattle.tallies.proofs.Ways.{set_refused}
use Rattle.tallies.proofs.sets.column.Goals as goal

pub returns-in-Refused : goal.returns-in-Refused
returns-in-Refused c = search set_refused

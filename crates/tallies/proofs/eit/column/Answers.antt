use Rattle.tallies.proofs.Ways.{eit_refused}
use Rattle.tallies.proofs.eit.column.Goals as goal

pub returns-in-Refused : goal.returns-in-Refused
returns-in-Refused c = search eit_refused

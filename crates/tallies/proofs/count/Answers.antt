use Rattle.tallies.proofs.Ways.{counted_in_lem, counted_out}
use Rattle.tallies.proofs.count.Goals as goal

pub returns-then-column-lt-COLUMNS : goal.returns-then-column-lt-COLUMNS
returns-then-column-lt-COLUMNS c = search counted_in_lem

pub returns-else-column-lt-COLUMNS : goal.returns-else-column-lt-COLUMNS
returns-else-column-lt-COLUMNS c = search counted_out

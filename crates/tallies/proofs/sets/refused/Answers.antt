use Rattle.tallies.proofs.Ways.{set_conflict, set_no_cell, set_other}
use Rattle.tallies.proofs.sets.refused.Goals as goal

pub returns-then-number-eq-CONFLICT : goal.returns-then-number-eq-CONFLICT
returns-then-number-eq-CONFLICT c = search set_conflict

pub returns-then-number-eq-NO_CELL : goal.returns-then-number-eq-NO_CELL
returns-then-number-eq-NO_CELL c = search set_no_cell

pub returns : goal.returns
returns c = search set_other

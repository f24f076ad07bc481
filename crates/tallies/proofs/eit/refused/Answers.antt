use Rattle.tallies.proofs.Ways.{eit_conflict, eit_no_cell, eit_range, eit_other}
use Rattle.tallies.proofs.eit.refused.Goals as goal

pub returns-then-number-eq-CONFLICT : goal.returns-then-number-eq-CONFLICT
returns-then-number-eq-CONFLICT c = search eit_conflict

pub returns-then-number-eq-NO_CELL : goal.returns-then-number-eq-NO_CELL
returns-then-number-eq-NO_CELL c = search eit_no_cell

pub returns-then-number-eq-RANGE : goal.returns-then-number-eq-RANGE
returns-then-number-eq-RANGE c = search eit_range

pub returns : goal.returns
returns c = search eit_other

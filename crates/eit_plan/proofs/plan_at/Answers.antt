use Rattle.eit_plan.proofs.Plans.{at_conflict, at_repeat, at_cell, at_none}
use Rattle.eit_plan.proofs.plan_at.Goals as goal

pub returns-then-cell-count : goal.returns-then-cell-count
returns-then-cell-count c = search at_cell

pub returns-in-Conflict : goal.returns-in-Conflict
returns-in-Conflict c = search at_conflict

pub returns-in-Repeat : goal.returns-in-Repeat
returns-in-Repeat c = search at_repeat

pub returns-else-cell-count : goal.returns-else-cell-count
returns-else-cell-count c = search at_none

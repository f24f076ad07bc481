use Rattle.sets_plan.proofs.Ways.{keep_cell, keep_none}
use Rattle.sets_plan.proofs.plan_keep.Goals as goal

pub returns-then-c-sets : goal.returns-then-c-sets
returns-then-c-sets c = search keep_cell

pub returns-else-c-sets : goal.returns-else-c-sets
returns-else-c-sets c = search keep_none

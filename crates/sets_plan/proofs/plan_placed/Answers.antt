use Rattle.sets_plan.proofs.Ways.{placed_conflict, placed_repeat, placed_keep}
use Rattle.sets_plan.proofs.plan_placed.Goals as goal

pub returns-in-Conflict : goal.returns-in-Conflict
returns-in-Conflict c = search placed_conflict

pub returns-in-Repeat : goal.returns-in-Repeat
returns-in-Repeat c = search placed_repeat

pub returns-in-Goes : goal.returns-in-Goes
returns-in-Goes c = search placed_keep

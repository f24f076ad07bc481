use Rattle.eit_state.specs.State.{rows}
use Rattle.eit_plan.proofs.Plans.{cell_conflict, cell_repeat, cell_goes}
use Rattle.eit_plan.proofs.free_cell.Goals as goal

pub returns-in-Conflict : goal.returns-in-Conflict
returns-in-Conflict c = let a = c.args in cell_conflict (rows a.eit a.heads.now a.slots.now a.schedule_heads.now a.units.now) a.place c.in-Conflict.field-0 c.in-Conflict.is

pub returns-in-Repeat : goal.returns-in-Repeat
returns-in-Repeat c = let a = c.args in cell_repeat (rows a.eit a.heads.now a.slots.now a.schedule_heads.now a.units.now) a.place c.in-Repeat.field-0 c.in-Repeat.is

pub returns-in-Goes : goal.returns-in-Goes
returns-in-Goes c = search cell_goes

use Rattle.eit_state.proofs.Whole.{count_fits, size_fits, units_long, look_sets, look_fit, look_units}
use Rattle.eit_state.proofs.look.Goals as goal

pub overflow_cast-sets : goal.overflow_cast-sets
overflow_cast-sets c = search count_fits

pub overflow_cast-sets-then-schedules_fit : goal.overflow_cast-sets-then-schedules_fit
overflow_cast-sets-then-schedules_fit c = search size_fits

pub schedules_whole-whole-requires : goal.schedules_whole-whole-requires
schedules_whole-whole-requires c = let a = c.args in
    units_long a.eit a.heads.now a.slots.now a.cells.now _ c.look-seen.ensures.whole_value c.if-seen.true _ a.schedule_heads.now a.units.now
    c.schedules_fit.ensures c.if-schedules_fit.true

pub returns-then-schedules_fit : goal.returns-then-schedules_fit
returns-then-schedules_fit c = let r = let a = c.args in let s = c.look-seen in
    look_units a.eit a.heads.now a.slots.now a.cells.now a.schedule_heads.now a.units.now s.result s.ensures.whole_value c.schedules_fit.result c.if-seen.true c.schedules_fit.ensures c.schedules_whole-whole.result c.if-schedules_fit.true c.schedules_whole-whole.ensures s.ensures.without_value in record { whole_value = r.0; without_value = r.1 }

pub returns-else-schedules_fit : goal.returns-else-schedules_fit
returns-else-schedules_fit c = let r = let a = c.args in let s = c.look-seen in
    look_fit a.eit a.heads.now a.slots.now a.cells.now a.schedule_heads.now a.units.now s.result s.ensures.whole_value c.schedules_fit.result c.if-seen.true c.schedules_fit.ensures c.if-schedules_fit.false in record { whole_value = r.0; without_value = r.1 }

pub returns-else-seen : goal.returns-else-seen
returns-else-seen c = let r = let a = c.args in let s = c.look-seen in look_sets a.eit a.heads.now a.slots.now a.cells.now a.schedule_heads.now a.units.now s.result s.ensures.whole_value c.if-seen.false in record { whole_value = r.0; without_value = r.1 }

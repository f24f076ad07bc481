use lib.ListN.{length}
use Rattle.store.proofs.Whole.{count_fits, size_fits, rows_long, look_rows, look_used, look_not}
use Rattle.store.proofs.look.Goals as goal

pub overflow_cast-sets : goal.overflow_cast-sets
overflow_cast-sets c = search count_fits

pub overflow_cast-sets-then-sets : goal.overflow_cast-sets-then-sets
overflow_cast-sets-then-sets c = search size_fits

pub look-requires : goal.look-requires
look-requires c = rows_long c.args.sets _ _ (length c.args.cells.now) _ c.settings_fit.ensures c.if-settings_fit.true c.if-sets.true

pub returns-then-sets : goal.returns-then-sets
returns-then-sets c = let a = c.args in (let all = look_rows a.sets a.heads.now a.slots.now a.cells.now c.settings_fit.result c.settings_fit.ensures c.look.result c.if-settings_fit.true c.if-sets.true c.look.ensures in (record { whole_value = all.0; without_value = all.1 }))

pub returns-else-sets : goal.returns-else-sets
returns-else-sets c = let a = c.args in (let all = look_used a.sets a.heads.now a.slots.now a.cells.now c.settings_fit.result c.settings_fit.ensures c.if-settings_fit.true c.if-sets.false in (record { whole_value = all.0; without_value = all.1 }))

pub returns-else-settings_fit : goal.returns-else-settings_fit
returns-else-settings_fit c = let a = c.args in (let all = look_not a.sets a.heads.now a.slots.now a.cells.now c.settings_fit.result c.settings_fit.ensures c.if-settings_fit.false in (record { whole_value = all.0; without_value = all.1 }))

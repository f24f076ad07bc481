use Rattle.eit.proofs.Calls.{dropped_refused, dropped_matching, dropping_may}
use Rattle.eit.proofs.drop.Goals as goal

pub drop_matching-then-requires : goal.drop_matching-then-requires
drop_matching-then-requires c = let a = c.args in dropping_may a.eit a.heads.now a.slots.now a.cells.now a.schedule_heads.now a.units.now c.admit_filter.result c.in-Ok.f c.admit_filter.ensures.drop_ok c.in-Ok.is

pub returns-in-Err : goal.returns-in-Err
returns-in-Err c = let a = c.args in dropped_refused a.eit a.heads.now a.slots.now a.cells.now a.schedule_heads.now a.units.now a.filter c.admit_filter.result c.admit_filter.ensures.value c.in-Err.refusal c.in-Err.is

pub returns-in-Ok : goal.returns-in-Ok
returns-in-Ok c = search dropped_matching

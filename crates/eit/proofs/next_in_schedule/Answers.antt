use Rattle.eit.proofs.Questions.{in_broken, in_without, in_table, schedules_there}
use Rattle.eit_pids.proofs.Heads.{heads_fit}
use Rattle.eit.proofs.next_in_schedule.Goals as goal

pub any_row_without_pid-requires : goal.any_row_without_pid-requires
any_row_without_pid-requires c = search heads_fit

pub returns-then-any_row_without_pid : goal.returns-then-any_row_without_pid
returns-then-any_row_without_pid c = search in_without

pub in_schedule-requires : goal.in_schedule-requires
in_schedule-requires c = let a = c.args in schedules_there a.eit a.heads.now a.slots.now a.cells.now a.schedule_heads.now a.units.now _ c.is_whole.ensures c.if-is_whole.true

pub returns-then-is_whole : goal.returns-then-is_whole
returns-then-is_whole c = search in_table

pub returns : goal.returns
returns c = search in_broken

use Rattle.eit.proofs.Questions.{next_broken, next_without, next_in, sets_there}
use Rattle.eit_pids.proofs.Heads.{heads_fit}
use Rattle.eit.proofs.next_section.Goals as goal

pub any_row_without_pid-requires : goal.any_row_without_pid-requires
any_row_without_pid-requires c = search heads_fit

pub returns-then-any_row_without_pid : goal.returns-then-any_row_without_pid
returns-then-any_row_without_pid c = search next_without

pub in_row-requires : goal.in_row-requires
in_row-requires c = let a = c.args in sets_there a.eit a.heads.now a.slots.now a.cells.now a.schedule_heads.now a.units.now _ c.is_whole.ensures c.if-is_whole.true

pub returns-then-is_whole : goal.returns-then-is_whole
returns-then-is_whole c = search next_in

pub returns : goal.returns
returns c = search next_broken

use Rattle.reader_rows.proofs.Ways.{eit_without, eit_there, eit_none, eit_broken, eit_row}
use Rattle.eit_pids.proofs.Heads.{heads_fit}
use Rattle.reader_rows.proofs.eit_slots.Goals as goal

pub any_row_without_pid-requires : goal.any_row_without_pid-requires
any_row_without_pid-requires c = search heads_fit

pub returns-then-any_row_without_pid : goal.returns-then-any_row_without_pid
returns-then-any_row_without_pid c = search eit_without

pub row_slots-requires : goal.row_slots-requires
row_slots-requires c = let a = c.args in eit_row a.eit a.heads.now a.slots.now a.cells.now a.schedule_heads.now a.units.now _ c.is_whole.ensures c.if-is_whole.true a.row c.if-row-held.true

pub returns-then-row-held : goal.returns-then-row-held
returns-then-row-held c = search eit_there

pub returns-then-is_whole : goal.returns-then-is_whole
returns-then-is_whole c = search eit_none

pub returns : goal.returns
returns c = search eit_broken

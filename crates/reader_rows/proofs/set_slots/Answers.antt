use Rattle.reader_rows.proofs.Ways.{set_without, set_there, set_none, set_broken, set_row, set_heads}
use Rattle.reader_rows.proofs.set_slots.Goals as goal

pub any_without_pid-requires : goal.any_without_pid-requires
any_without_pid-requires c = search set_heads

pub returns-then-any_without_pid : goal.returns-then-any_without_pid
returns-then-any_without_pid c = search set_without

pub row_slots-requires : goal.row_slots-requires
row_slots-requires c = let a = c.args in set_row a.sets a.heads.now a.slots.now a.cells.now _ a.row c.is_whole.ensures c.if-is_whole.true c.if-row-sets.true

pub returns-then-row-sets : goal.returns-then-row-sets
returns-then-row-sets c = search set_there

pub returns-then-is_whole : goal.returns-then-is_whole
returns-then-is_whole c = search set_none

pub returns : goal.returns
returns c = search set_broken

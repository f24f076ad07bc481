use Rattle.showing.proofs.Ways.{set_refused, set_without, set_none, set_listed_lem}
use Rattle.eit_pids.proofs.Heads.{heads_fit}
use Rattle.showing.proofs.Held.{heads_there, set_row, set_held, size_small, length_row}
use Rattle.showing.proofs.events_of_set.Goals as goal

pub any_row_without_pid-without-requires : goal.any_row_without_pid-without-requires
any_row_without_pid-without-requires c = search heads_fit

pub returns-then-without : goal.returns-then-without
returns-then-without c = search set_without

pub is_set_out-requires : goal.is_set_out-requires
is_set_out-requires c = search heads_there

pub row_slots-part-requires : goal.row_slots-part-requires
row_slots-part-requires c = let a = c.args in set_row a.eit a.heads.now a.slots.now a.cells.now a.schedule_heads.now a.units.now _ c.is_whole-whole.ensures c.if-whole.true a.row _ c.is_set_out.ensures c.if-is_set_out.true

pub show_slots-requires : goal.show_slots-requires
show_slots-requires c = record { held_slots = search set_held; slots_len_bound = (search length_row, search size_small) }

pub returns-then-is_set_out : goal.returns-then-is_set_out
returns-then-is_set_out c = search set_listed_lem

pub returns-then-whole : goal.returns-then-whole
returns-then-whole c = search set_none

pub returns : goal.returns
returns c = search set_refused

use Rattle.networks.proofs.Ways.{heads_there, head_there, slots_there, slots_in, set_refused, set_without, set_none, set_read_lem}
use Rattle.networks.proofs.entries_of_set.Goals as goal

pub any_without_pid-without-requires : goal.any_without_pid-without-requires
any_without_pid-without-requires c = search heads_there

pub returns-then-without : goal.returns-then-without
returns-then-without c = search set_without

pub is_set_out-requires : goal.is_set_out-requires
is_set_out-requires c = search heads_there

pub row_slots-part-requires : goal.row_slots-part-requires
row_slots-part-requires c = (search head_there, search slots_there)

pub read_slots-requires : goal.read_slots-requires
read_slots-requires c = search slots_in

pub returns-then-is_set_out : goal.returns-then-is_set_out
returns-then-is_set_out c = search set_read_lem

pub returns-then-whole : goal.returns-then-whole
returns-then-whole c = search set_none

pub returns : goal.returns
returns c = search set_refused

use Rattle.gate_pats.proofs.Laws.{whole_room, is_full_lem, is_ready, used_ready, broken, unused, unused_ready}
use Rattle.gate_pats.proofs.inner.state_of.Goals as goal

pub is_full-requires : goal.is_full-requires
is_full-requires c = search whole_room

pub returns-then-is_full : goal.returns-then-is_full
returns-then-is_full c = record { value = search is_full_lem; state_ok = tt }

pub returns-then-is_whole : goal.returns-then-is_whole
returns-then-is_whole c = record { value = search is_ready; state_ok = search used_ready }

pub returns-then-by_tables : goal.returns-then-by_tables
returns-then-by_tables c = record { value = search broken; state_ok = tt }

pub returns : goal.returns
returns c = record { value = search unused; state_ok = search unused_ready }

use Rattle.gate_pats.proofs.Laws.{begin_room, begun_yes, begun_no}
use Rattle.gate_pats.proofs.inner.begin.Goals as goal

pub begin-requires : goal.begin-requires
begin-requires c = search begin_room

pub returns-then-by_tables-is_ok : goal.returns-then-by_tables-is_ok
returns-then-by_tables-is_ok c = search begun_yes

pub returns-else-by_tables-is_ok : goal.returns-else-by_tables-is_ok
returns-else-by_tables-is_ok c = search begun_no

use Rattle.gate_pats.proofs.Laws.{room_tables, room_else}
use Rattle.gate_pats.proofs.inner.has_room.Goals as goal

pub returns-then-by_tables : goal.returns-then-by_tables
returns-then-by_tables c = search room_tables

pub returns : goal.returns
returns c = search room_else

use Rattle.gate_pats.proofs.Laws.{begin_ok, record_there, record_not}
use Rattle.gate_pats.proofs.open_record.Goals as goal

pub begin-requires : goal.begin-requires
begin-requires c = search begin_ok

pub returns-then-has_room : goal.returns-then-has_room
returns-then-has_room c = search record_there

pub returns : goal.returns
returns c = search record_not

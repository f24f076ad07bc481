use Rattle.gate_pats_indexed.proofs.Laws.{opened_there, opened_not}
use Rattle.gate_pats.proofs.Laws.{begin_ok}
use Rattle.gate_pats_indexed.proofs.open.Goals as goal

pub begin-requires : goal.begin-requires
begin-requires c = search begin_ok

pub returns-then-has_room : goal.returns-then-has_room
returns-then-has_room c = search opened_there

pub returns : goal.returns
returns c = search opened_not

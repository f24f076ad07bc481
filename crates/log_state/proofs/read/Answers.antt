use Rattle.log_state.proofs.Laws.{read_section_lem, read_from_ok, read_refused}
use Rattle.log_state.proofs.read.Goals as goal

pub returns-in-Ok : goal.returns-in-Ok
returns-in-Ok c = record { value = search read_section_lem; from_ok = search read_from_ok }

pub returns-in-Err : goal.returns-in-Err
returns-in-Err c = record { value = search read_refused; from_ok = tt }

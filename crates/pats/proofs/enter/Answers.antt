use Rattle.pats.proofs.Ways.{enter_not, enter_refused, enter_arrives, enter_arrived}
use Rattle.pats.proofs.enter.Goals as goal

pub collect-requires : goal.collect-requires
collect-requires c = record { pats_ready = c.requires; arrives = search enter_arrives }

pub returns-in-Err : goal.returns-in-Err
returns-in-Err c = search enter_refused

pub returns-in-Ok : goal.returns-in-Ok
returns-in-Ok c = search enter_arrived

pub returns-else-may_enter : goal.returns-else-may_enter
returns-else-may_enter c = search enter_not

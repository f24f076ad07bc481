use Rattle.log_prepare.proofs.Laws.{is_without_lem, is_ready, is_little}
use Rattle.log_prepare.proofs.ready.Goals as goal

pub returns-then-is_without : goal.returns-then-is_without
returns-then-is_without c = search is_without_lem

pub returns-in-Ok : goal.returns-in-Ok
returns-in-Ok c = search is_ready

pub returns-in-Err : goal.returns-in-Err
returns-in-Err c = search is_little

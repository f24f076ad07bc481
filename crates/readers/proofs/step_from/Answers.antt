use Rattle.readers.proofs.Steps.{step_large, step_there, step_none, step_refused, behind_fits}
use Rattle.readers.proofs.step_from.Goals as goal

pub returns-then-size-gt4096 : goal.returns-then-size-gt4096
returns-then-size-gt4096 c = search step_large

pub overflow_add-result : goal.overflow_add-result
overflow_add-result c = search behind_fits

pub returns-in-Ok-true : goal.returns-in-Ok-true
returns-in-Ok-true c = search step_there

pub returns-in-Ok-false : goal.returns-in-Ok-false
returns-in-Ok-false c = search step_none

pub returns-in-Err : goal.returns-in-Err
returns-in-Err c = search step_refused

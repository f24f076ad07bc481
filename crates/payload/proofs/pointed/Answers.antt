use Rattle.payload.proofs.Laws.{no_pointer, pointer_past, pointer_there}
use Rattle.payload.proofs.pointed.Goals as goal

pub returns-then-from-end : goal.returns-then-from-end
returns-then-from-end c = search no_pointer

pub returns-then-end-begin : goal.returns-then-end-begin
returns-then-end-begin c = search pointer_past

pub returns : goal.returns
returns c = search pointer_there

use Rattle.ring_index.proofs.Laws.{enter_free, enter_full}
use Rattle.ring_index.proofs.enter.Goals as goal

pub returns-then-used-room : goal.returns-then-used-room
returns-then-used-room c = search enter_free

pub returns : goal.returns
returns c = search enter_full

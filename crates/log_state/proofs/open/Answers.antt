use Rattle.log_state.proofs.Laws.{opened_without, opened_done, opened_little}
use Rattle.log_state.proofs.open.Goals as goal

pub returns-then-is_without : goal.returns-then-is_without
returns-then-is_without c = search opened_without

pub returns-then-can_open : goal.returns-then-can_open
returns-then-can_open c = search opened_done

pub returns : goal.returns
returns c = search opened_little

use Rattle.eit.proofs.Calls.{cleared_broken, cleared_without, cleared_done}
use Rattle.eit_pids.proofs.Heads.{heads_fit}
use Rattle.eit.proofs.clear.Goals as goal

pub any_row_without_pid-requires : goal.any_row_without_pid-requires
any_row_without_pid-requires c = search heads_fit

pub returns-then-any_row_without_pid : goal.returns-then-any_row_without_pid
returns-then-any_row_without_pid c = search cleared_without

pub returns-then-is_whole : goal.returns-then-is_whole
returns-then-is_whole c = search cleared_done

pub returns : goal.returns
returns c = search cleared_broken

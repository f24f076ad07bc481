use Rattle.eit_admit.proofs.Ways.{drop_broken, drop_without, drop_read, drop_may}
use Rattle.eit_pids.proofs.Heads.{heads_fit}
use Rattle.eit_admit.proofs.admit_filter.Goals as goal

pub any_row_without_pid-requires : goal.any_row_without_pid-requires
any_row_without_pid-requires c = search heads_fit

pub returns-then-any_row_without_pid : goal.returns-then-any_row_without_pid
returns-then-any_row_without_pid c = record { value = search drop_without; drop_ok = tt }

pub returns-then-is_whole : goal.returns-then-is_whole
returns-then-is_whole c = record { value = search drop_read; drop_ok = search drop_may }

pub returns : goal.returns
returns c = record { value = search drop_broken; drop_ok = tt }

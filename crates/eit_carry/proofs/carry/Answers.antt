use Rattle.eit_carry.proofs.Ways.{carried_leave, carried_conflict, carried_repeat, carried_keep, conflict_runs, conflict_may, repeat_runs, repeat_may, keep_may}
use Rattle.eit_carry.proofs.carry.Goals as goal

pub risen-then-requires : goal.risen-then-requires
risen-then-requires c = search conflict_runs

pub conflict-answer-requires : goal.conflict-answer-requires
conflict-answer-requires c = search conflict_may

pub risen-requires : goal.risen-requires
risen-requires c = search repeat_runs

pub settle-requires : goal.settle-requires
settle-requires c = search repeat_may

pub keep_section-requires : goal.keep_section-requires
keep_section-requires c = search keep_may

pub returns-in-Leave : goal.returns-in-Leave
returns-in-Leave c = search carried_leave

pub returns-in-Conflict : goal.returns-in-Conflict
returns-in-Conflict c = search carried_conflict

pub returns-in-Repeat : goal.returns-in-Repeat
returns-in-Repeat c = search carried_repeat

pub returns-in-Keep : goal.returns-in-Keep
returns-in-Keep c = search carried_keep

use Rattle.times.proofs.Laws.{time_at, time_none}
use Rattle.times.proofs.time_of.Goals as goal

pub returns-then-is_bcd : goal.returns-then-is_bcd
returns-then-is_bcd c = search time_at

pub returns-else-is_bcd : goal.returns-else-is_bcd
returns-else-is_bcd c = search time_none

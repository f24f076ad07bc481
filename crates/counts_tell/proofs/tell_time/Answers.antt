-- A line where one is due. Assumes nothing.
use Rattle.counts_tell.proofs.Ways.{due, not_due}
use Rattle.counts_tell.proofs.tell_time.Goals as goal

pub returns-then-is_due : goal.returns-then-is_due
returns-then-is_due g c = search due

pub returns : goal.returns
returns g c = search not_due

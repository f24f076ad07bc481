-- `without_pid::is_plain` meets its contract. Assumes nothing.
use borrow.Author.Tests.{ne_eqb}
use Rattle.without_pid.proofs.Rows.{not_plain, plain_slot}
use Rattle.without_pid.proofs.is_plain.Goals as goal

pub returns-then-heads-i-ne-NO_PID : goal.returns-then-heads-i-ne-NO_PID
returns-then-heads-i-ne-NO_PID c = λ t. (search (plain_slot, c.filled_whole.ensures), search (ne_eqb, c.if-heads-i-ne-NO_PID.true))

pub returns-else-heads-i-ne-NO_PID : goal.returns-else-heads-i-ne-NO_PID
returns-else-heads-i-ne-NO_PID c = search not_plain

pub returns-else-last-eq0 : goal.returns-else-last-eq0
returns-else-last-eq0 c = search not_plain

use Rattle.host_showing.proofs.Calls.{no_day, a_day}
use Rattle.host_showing.proofs.date.Goals as goal

pub returns-then-day-gt65535 : goal.returns-then-day-gt65535
returns-then-day-gt65535 c = search no_day

pub returns : goal.returns
returns c = search a_day

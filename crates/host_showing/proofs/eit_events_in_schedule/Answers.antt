use Rattle.host_showing.proofs.Calls.{table_listed_lem}
use Rattle.host_showing.proofs.eit_events_in_schedule.Goals as goal

pub returns : goal.returns
returns c = search table_listed_lem

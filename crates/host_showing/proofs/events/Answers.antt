use Rattle.host_showing.proofs.Calls.{section_listed_lem}
use Rattle.host_showing.proofs.events.Goals as goal

pub returns : goal.returns
returns c = search section_listed_lem

use Rattle.host_showing.proofs.Calls.{listed_kept, listed_written}
use Rattle.host_showing.proofs.write_listed.Goals as goal

pub returns-then-number : goal.returns-then-number
returns-then-number c = search listed_kept

pub returns : goal.returns
returns c = search listed_written

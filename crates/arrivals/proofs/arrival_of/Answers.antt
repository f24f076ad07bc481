use Rattle.arrivals.proofs.Ways.{arrival_made}
use Rattle.arrivals.proofs.arrival_of.Goals as goal

pub returns : goal.returns
returns c = search arrival_made

use Rattle.differences.proofs.Listing.{counted}
use Rattle.differences.proofs.count.Goals as goal

pub returns : goal.returns
returns c = search counted

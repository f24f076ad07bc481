use Rattle.listing.proofs.Ways.{entry_put}
use Rattle.listing.proofs.put_entry.Goals as goal

pub returns : goal.returns
returns c = search entry_put

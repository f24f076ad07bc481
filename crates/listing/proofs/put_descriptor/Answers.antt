use Rattle.listing.proofs.Ways.{descriptor_put}
use Rattle.listing.proofs.put_descriptor.Goals as goal

pub returns : goal.returns
returns c = search descriptor_put

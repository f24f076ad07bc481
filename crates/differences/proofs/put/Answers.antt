use Rattle.differences.proofs.Listing.{put_out}
use Rattle.differences.proofs.put.Goals as goal

pub returns-else-k-list : goal.returns-else-k-list
returns-else-k-list c = search put_out

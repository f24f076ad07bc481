use Rattle.listing.proofs.Ways.{count_read_lem}
use borrow.Author.Rules.{rules}
use Rattle.listing.proofs.count_at.Goals as goal

pub returns : goal.returns
returns c = (search count_read_lem, search rules)

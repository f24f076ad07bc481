use Rattle.eit_keep.proofs.Ways.{word_kept}
use borrow.Author.Rules.{rules}
use Rattle.eit_keep.proofs.keep.Goals as goal

pub returns : goal.returns
returns c = record { heads_after = search rules; slots_after = search word_kept; cells_after = search rules }

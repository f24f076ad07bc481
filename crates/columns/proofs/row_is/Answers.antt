use Rattle.columns.proofs.Ways.{row_tagged, row_looked}
use Rattle.columns.proofs.row_is.Goals as goal

pub returns-then-tags-i : goal.returns-then-tags-i
returns-then-tags-i c = search row_tagged

pub returns : goal.returns
returns c = search row_looked

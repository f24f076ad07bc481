use borrow.Author.Rules.{rules}
use Rattle.rows.specs.Rows.{touched}
use Rattle.rows.proofs.touch.Goals as goal

pub returns : goal.returns
unfolding touched
returns c = search rules

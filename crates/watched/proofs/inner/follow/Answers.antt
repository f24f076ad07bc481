-- `watched::inner::follow` meets its contract: the two sets written, and the protected one between them, are the words. Assumes nothing.
use mathlib.Core.Path.{◌∙◌}
use Rattle.watched.proofs.Laws.{follow_laid}
use Rattle.watched.proofs.inner.follow.Goals as goal

pub returns : goal.returns
returns c = c.put.ensures ∙ rw c.renew.ensures (follow_laid c.args.words.now c.args.n.now c.requires c.renew-arg-2-1.given)

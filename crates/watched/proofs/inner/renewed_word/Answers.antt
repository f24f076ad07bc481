-- `watched::inner::renewed_word` meets its contract. Assumes nothing.
use Rattle.watched.proofs.inner.renewed_word.Goals as goal

pub returns : goal.returns
returns c = rw (c.less.ensures, c.less-dropped.ensures)

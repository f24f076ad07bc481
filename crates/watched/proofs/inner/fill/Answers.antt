-- `watched::inner::fill` meets its contract: the three sets written are the words. Assumes nothing.
use mathlib.Core.Path.{◌∙◌}
use Rattle.watched.proofs.Laws.{fill_opened}
use Rattle.watched.proofs.inner.fill.Goals as goal

pub returns : goal.returns
returns c = c.put-3.ensures ∙ rw (c.put-2.ensures, c.put.ensures) (fill_opened c.args.words.now c.args.well_known c.args.extra.now c.protected_set-protected.result c.no_pids-none.result c.requires.in_bounds c.protected_set-protected.ensures c.no_pids-none.ensures)

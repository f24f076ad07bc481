-- `watched::inner::protected_set` meets its contract: the well-known PIDs and then the extra ones. Assumes nothing.
use Rattle.watched.specs.Store.{no_pids}
use mathlib.Core.Path.{◌∙◌}
use Rattle.watched.proofs.Laws.{protect_all}
use Rattle.watched.proofs.inner.protected_set.Goals as goal

pub returns : goal.returns
returns c = c.add_all.ensures ∙ rw (c.add_known.ensures, c.no_pids-set.ensures) (protect_all no_pids c.args.well_known c.args.extra.now)

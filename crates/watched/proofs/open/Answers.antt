-- `watched::open` meets its contract: one law for each way out. Assumes nothing.
use native.Mathlib.Omega.{arith}
use Rattle.watched.proofs.Laws.{open_bad, open_little, open_good, open_judged}
use mathlib.Core.Path.{ap}
use mathlib.Core.Bool.{not}
use Rattle.watched.proofs.open.Goals as goal

pub returns-then-not-pids_good : goal.returns-then-not-pids_good
returns-then-not-pids_good c = search open_bad

pub returns-then-words-lt-WORDS : goal.returns-then-words-lt-WORDS
returns-then-words-lt-WORDS c = search open_little

pub fill-requires : goal.fill-requires
fill-requires c = record { in_bounds = omega arith; extra_value = open_judged c.args.words.now c.args.well_known c.args.extra.now _ c.pids_good.ensures (ap not c.if-not-pids_good.false) }

pub returns : goal.returns
returns c = search open_good

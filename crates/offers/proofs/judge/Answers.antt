use Rattle.offers.proofs.Facts.{judged_broken, judged_full, judged_read, judged_ok}
use mathlib.Core.Path.{ap}
use mathlib.Core.Bool.{not}
use Rattle.offers.proofs.judge.Goals as goal

pub returns-then-not-whole : goal.returns-then-not-whole
returns-then-not-whole c = record { value = search judged_broken; verdict_ok = tt }

pub returns-then-any_full : goal.returns-then-any_full
returns-then-any_full c = record { value = search judged_full; verdict_ok = tt }

pub returns : goal.returns
returns c = let a = c.args in
    record { value = search judged_read; verdict_ok = judged_ok a.whole a.counters a.rule a.input a.pid a.section.now (ap not c.if-not-whole.false) (c.any_full.ensures.can_count c.if-any_full.false) c.read.result c.read.ensures.taken }

use Rattle.sets_plan.proofs.Ways.{plan_long, plan_silent, plan_good}
use borrow.Author.Rules.{rules}
use Rattle.sets_plan.proofs.May.{counts}
use Rattle.sets_plan.proofs.decide.Goals as goal

pub returns-then-sets-bytes : goal.returns-then-sets-bytes
returns-then-sets-bytes c = search plan_long

pub returns-then-sets-eq0 : goal.returns-then-sets-eq0
returns-then-sets-eq0 c = search plan_silent

pub place_section-p-requires : goal.place_section-p-requires
place_section-p-requires c = record { whole = search rules; numbered = search rules; limit_nonzero = (search rules, counts _ c.requires.ready.counts (search rules)) }

pub returns : goal.returns
returns c = search plan_good

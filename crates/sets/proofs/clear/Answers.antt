use Rattle.sets.proofs.Questions.{cleared_yes, cleared_without, cleared_no}
use Rattle.sets.proofs.clear.Goals as goal

pub returns-then-seen-2 : goal.returns-then-seen-2
returns-then-seen-2 c = search cleared_without

pub returns-then-seen : goal.returns-then-seen
returns-then-seen c = search cleared_yes

pub returns : goal.returns
returns c = search cleared_no

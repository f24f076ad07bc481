use Rattle.eit_state.proofs.Ways.{cleared_yes, cleared_no}
use Rattle.eit_state.proofs.cleared.Goals as goal

pub returns-then-whole : goal.returns-then-whole
returns-then-whole c = search cleared_yes

pub returns : goal.returns
returns c = search cleared_no

use mathlib.Core.Path.{◌∙◌}
use Rattle.payload.proofs.Laws.{front_already, moved}
use Rattle.payload.proofs.to_front.Goals as goal

pub returns-then-first-ne0 : goal.returns-then-first-ne0
returns-then-first-ne0 c = c.copy_within.ensures.after ∙ moved c.args.buffer.now c.args.first c.args.size c.requires

pub returns-else-first-ne0 : goal.returns-else-first-ne0
returns-else-first-ne0 c = search front_already

-- `gate::inner::follow` meets its contract: one law for each way out. Assumes nothing.
use Rattle.gate.proofs.Laws.{follow_yes, follow_no}
use Rattle.gate.proofs.inner.follow.Goals as goal

pub returns-then-seen-by_sections : goal.returns-then-seen-by_sections
returns-then-seen-by_sections c = search follow_yes

pub returns-else-seen-by_sections : goal.returns-else-seen-by_sections
returns-else-seen-by_sections c = search follow_no

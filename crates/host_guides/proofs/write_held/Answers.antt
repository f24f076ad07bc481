use Rattle.host_guides.proofs.Calls.{held_written, held_kept}
use Rattle.host_guides.proofs.write_held.Goals as goal

pub returns-then-number-eq-DIFFER : goal.returns-then-number-eq-DIFFER
returns-then-number-eq-DIFFER c = search held_written

pub returns-else-number-eq-DIFFER : goal.returns-else-number-eq-DIFFER
returns-else-number-eq-DIFFER c = search held_kept

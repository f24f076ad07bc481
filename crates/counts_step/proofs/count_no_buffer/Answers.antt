use Rattle.counts_step.proofs.Ways.{no_buffer, other}
use Rattle.counts_step.proofs.count_no_buffer.Goals as goal

pub returns-then-number-eq-NO_BUFFER : goal.returns-then-number-eq-NO_BUFFER
returns-then-number-eq-NO_BUFFER c = search no_buffer

pub returns-else-number-eq-NO_BUFFER : goal.returns-else-number-eq-NO_BUFFER
returns-else-number-eq-NO_BUFFER c = search other

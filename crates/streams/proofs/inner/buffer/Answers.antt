use Rattle.streams.proofs.Laws.{no_number, past_count, a_buffer}
use Rattle.streams.proofs.inner.buffer.Goals as goal

pub returns-then-number-eq0 : goal.returns-then-number-eq0
returns-then-number-eq0 c = search no_number

pub returns-then-count-number : goal.returns-then-count-number
returns-then-count-number c = search past_count

pub returns : goal.returns
returns c = search a_buffer

use Rattle.payload.proofs.Laws.{byte_in_buffer, byte_in_part}
use Rattle.payload.proofs.byte_of.Goals as goal

pub returns-then-i-size : goal.returns-then-i-size
returns-then-i-size c = search byte_in_buffer

pub returns : goal.returns
returns c = search byte_in_part

use Rattle.alignment.proofs.Laws.{judged_none, judged_most}
use Rattle.alignment.proofs.judged.Goals as goal

pub returns-then-length-lt-PACKET_BYTES : goal.returns-then-length-lt-PACKET_BYTES
returns-then-length-lt-PACKET_BYTES c = search judged_none

pub returns : goal.returns
returns c = search judged_most

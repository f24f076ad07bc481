use Rattle.host_gate_words.proofs.Laws.{held_are}
use Rattle.host_gate_words.proofs.read.Goals as goal

pub returns : goal.returns
returns c = search held_are

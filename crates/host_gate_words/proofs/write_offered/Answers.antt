use Rattle.host_gate_words.proofs.Laws.{told_are}
use Rattle.host_gate_words.proofs.write_offered.Goals as goal

pub returns : goal.returns
returns c = search told_are

use Rattle.host_gate_words.proofs.Laws.{gate_is}
use Rattle.host_gate_words.proofs.gate.Goals as goal

pub returns : goal.returns
returns c = search gate_is

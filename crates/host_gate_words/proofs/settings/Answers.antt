use Rattle.host_gate_words.proofs.Laws.{settings_are}
use Rattle.host_gate_words.proofs.settings.Goals as goal

pub returns : goal.returns
returns c = search settings_are

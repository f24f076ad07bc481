use Rattle.host_gate_words.proofs.Laws.{failure_written}
use Rattle.host_gate_words.proofs.write_failure.Goals as goal

pub returns-in-Failed : goal.returns-in-Failed
returns-in-Failed c = search failure_written

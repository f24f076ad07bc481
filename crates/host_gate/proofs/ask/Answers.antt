use Rattle.host_gate.proofs.Calls.{watch_asked_lem}
use Rattle.host_gate.proofs.ask.Goals as goal

pub returns : goal.returns
returns c = search watch_asked_lem

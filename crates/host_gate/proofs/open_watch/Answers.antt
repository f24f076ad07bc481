use Rattle.host_gate.proofs.Calls.{watch_opened_lem}
use Rattle.host_gate.proofs.open_watch.Goals as goal

pub returns : goal.returns
returns c = search watch_opened_lem

use Rattle.host_streams.proofs.Laws.{told_are}
use Rattle.host_streams.proofs.write_fed.Goals as goal

pub returns : goal.returns
returns c = search told_are

use Rattle.host_streams.proofs.Laws.{streams_opened_lem}
use Rattle.host_streams.proofs.open.Goals as goal

pub returns : goal.returns
returns c = search streams_opened_lem

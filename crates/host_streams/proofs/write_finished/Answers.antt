use Rattle.host_streams.proofs.Laws.{finished_written}
use Rattle.host_streams.proofs.write_finished.Goals as goal

pub returns-in-Taken : goal.returns-in-Taken
returns-in-Taken c = search finished_written

use Rattle.host_sets_words.proofs.Laws.{sets_written}
use Rattle.host_sets_words.proofs.write_where.Goals as goal

pub returns-in-Ok : goal.returns-in-Ok
returns-in-Ok c = search sets_written

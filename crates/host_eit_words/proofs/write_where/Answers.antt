use Rattle.host_eit_words.proofs.Laws.{eit_written}
use Rattle.host_eit_words.proofs.write_where.Goals as goal

pub returns-in-Ok : goal.returns-in-Ok
returns-in-Ok c = search eit_written

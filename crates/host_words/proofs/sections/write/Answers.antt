use Rattle.host_words.proofs.Laws.{section_written}
use Rattle.host_words.proofs.sections.write.Goals as goal

pub returns-in-Ok-true : goal.returns-in-Ok-true
returns-in-Ok-true c = search section_written

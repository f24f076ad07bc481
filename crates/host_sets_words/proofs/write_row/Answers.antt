use Rattle.host_sets_words.proofs.Laws.{row_written}
use Rattle.host_sets_words.proofs.write_row.Goals as goal

pub returns-in-Set : goal.returns-in-Set
returns-in-Set c = search row_written

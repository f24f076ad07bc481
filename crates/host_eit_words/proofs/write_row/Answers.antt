use Rattle.host_eit_words.proofs.Laws.{set_row_written, schedule_row_written}
use Rattle.host_eit_words.proofs.write_row.Goals as goal

pub returns-in-Set : goal.returns-in-Set
returns-in-Set c = search set_row_written

pub returns-in-Schedule : goal.returns-in-Schedule
returns-in-Schedule c = search schedule_row_written

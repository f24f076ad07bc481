use Rattle.host_log_words.proofs.Laws.{length_written, length_kept}
use Rattle.host_log_words.proofs.write_length.Goals as goal

pub returns-in-Ok : goal.returns-in-Ok
returns-in-Ok c = search length_written

pub returns-in-Err : goal.returns-in-Err
returns-in-Err c = search length_kept

use Rattle.host_gate_words.proofs.Laws.{all_written, none_written}
use Rattle.host_gate_words.proofs.write_where.Goals as goal

pub returns-in-Ok : goal.returns-in-Ok
returns-in-Ok c = search all_written

pub returns-in-Err : goal.returns-in-Err
returns-in-Err c = search none_written

use Rattle.stream_cursor.proofs.Laws.{step_ok}
use Rattle.stream_cursor.proofs.look.Goals as goal

pub returns : goal.returns
returns c = search step_ok

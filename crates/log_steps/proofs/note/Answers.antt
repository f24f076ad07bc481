use Rattle.log_steps.proofs.Laws.{noted_seen}
use Rattle.log_steps.proofs.note.Goals as goal

pub returns : goal.returns
returns c = search noted_seen

use Rattle.log_records.proofs.Laws.{bare_set_bytes}
use Rattle.log_records.proofs.bare_set.Goals as goal

pub returns : goal.returns
returns c = search bare_set_bytes

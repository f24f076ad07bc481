use Rattle.log_records.proofs.Laws.{set_bytes_lem}
use Rattle.log_records.proofs.set.Goals as goal

pub returns : goal.returns
returns c = search set_bytes_lem

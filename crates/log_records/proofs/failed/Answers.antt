use Rattle.log_records.proofs.Laws.{failed_bytes}
use Rattle.log_records.proofs.failed.Goals as goal

pub returns : goal.returns
returns c = search failed_bytes

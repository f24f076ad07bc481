use Rattle.log_records.proofs.Laws.{seen_bytes}
use Rattle.log_records.proofs.seen.Goals as goal

pub returns : goal.returns
returns c = search seen_bytes

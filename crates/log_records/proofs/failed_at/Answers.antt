use Rattle.log_records.proofs.Reading.{failed_read}
use Rattle.log_records.proofs.failed_at.Goals as goal

pub returns : goal.returns
returns c = search failed_read

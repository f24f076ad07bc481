use Rattle.log_records.proofs.Reading.{seen_read}
use Rattle.log_records.proofs.seen_at.Goals as goal

pub returns : goal.returns
returns c = search seen_read

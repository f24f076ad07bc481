use Rattle.log_records.proofs.Reading.{bare_set_read}
use Rattle.log_records.proofs.bare_set_at.Goals as goal

pub returns : goal.returns
returns c = search bare_set_read

use Rattle.log_records.proofs.Reading.{set_read_lem}
use Rattle.log_records.proofs.set_at.Goals as goal

pub returns : goal.returns
returns c = search set_read_lem

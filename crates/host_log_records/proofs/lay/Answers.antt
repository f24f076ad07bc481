use Rattle.host_log_records.proofs.Laws.{laid_part}
use Rattle.host_log_records.proofs.lay.Goals as goal

pub returns : goal.returns
returns c = search laid_part

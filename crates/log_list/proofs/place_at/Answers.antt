use Rattle.log_list.proofs.Laws.{place_read}
use Rattle.log_list.proofs.place_at.Goals as goal

pub returns : goal.returns
returns c = search place_read

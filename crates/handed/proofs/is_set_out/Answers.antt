use Rattle.handed.proofs.Ways.{set_past, set_in_lem}
use Rattle.handed.proofs.is_set_out.Goals as goal

pub returns-then-row-used : goal.returns-then-row-used
returns-then-row-used c = search set_in_lem

pub returns : goal.returns
returns c = search set_past

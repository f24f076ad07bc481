use Rattle.rows.proofs.Loops.{slot_kept}
use Rattle.rows.proofs.keep_slot.Goals as goal

pub returns : goal.returns
returns c = search slot_kept

use Rattle.placing.proofs.Fits.{known_slot}
use Rattle.placing.proofs.Laws.{known_same, known_other}
use borrow.Author.Rules.{rules}
use Rattle.placing.proofs.place_known.Goals as goal

pub place_slot-requires : goal.place_slot-requires
place_slot-requires c = record { whole = search rules; w_value = search known_slot }

pub returns-then-same : goal.returns-then-same
returns-then-same c = search known_same

pub returns-else-same : goal.returns-else-same
returns-else-same c = search known_other

use Rattle.pats.proofs.Ways.{told_row, told_set}
use Rattle.pats.proofs.follow.Goals as goal

pub follow_row-requires : goal.follow_row-requires
follow_row-requires c = search told_row

pub returns-in-Set : goal.returns-in-Set
returns-in-Set c = search told_set

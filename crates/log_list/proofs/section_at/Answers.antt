use Rattle.log_list.proofs.Laws.{head_fits, first_there}
use Rattle.log_list.proofs.section_at.Goals as goal

pub place_at-requires : goal.place_at-requires
place_at-requires c = search head_fits

pub returns : goal.returns
returns c = search first_there

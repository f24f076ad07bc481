use Rattle.log_makers.proofs.Laws.{found_parts_lem, found_none}
use Rattle.log_makers.proofs.parts_entry.Goals as goal

pub returns-in-Some : goal.returns-in-Some
returns-in-Some c = search found_parts_lem

pub returns-in-None : goal.returns-in-None
returns-in-None c = search found_none

use Rattle.section.proofs.Laws.{checked_all, checked_stored}
use Rattle.log_makers.proofs.checked_change.Goals as goal

pub returns-in-AllBytes : goal.returns-in-AllBytes
returns-in-AllBytes c = search checked_all

pub returns-in-StoredCrc : goal.returns-in-StoredCrc
returns-in-StoredCrc c = search checked_stored

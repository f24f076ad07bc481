use Rattle.demux_places.proofs.Laws.{short_told, mismatch_told}
use Rattle.demux_places.proofs.failed.Goals as goal

pub returns-in-TooShort : goal.returns-in-TooShort
returns-in-TooShort c = search short_told

pub returns-in-Mismatch : goal.returns-in-Mismatch
returns-in-Mismatch c = search mismatch_told

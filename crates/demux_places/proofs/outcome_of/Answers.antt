use Rattle.demux_places.proofs.Laws.{emitted_told, suppressed_told, failed_told, refused_told}
use Rattle.demux_places.proofs.outcome_of.Goals as goal

pub returns-in-Emitted : goal.returns-in-Emitted
returns-in-Emitted c = search emitted_told

pub returns-in-Suppressed : goal.returns-in-Suppressed
returns-in-Suppressed c = search suppressed_told

pub returns-in-Failed : goal.returns-in-Failed
returns-in-Failed c = search failed_told

pub returns-in-Refused : goal.returns-in-Refused
returns-in-Refused c = search refused_told

use Rattle.section.proofs.Laws.{headed_made}
use Rattle.section.proofs.header.headed_parts.Goals as goal

pub returns : goal.returns
returns c = search headed_made

use Rattle.section.proofs.Laws.{header_made}
use Rattle.section.proofs.header.header_of.Goals as goal

pub returns : goal.returns
returns c = search header_made

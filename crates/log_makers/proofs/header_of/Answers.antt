use Rattle.section.proofs.Laws.{header_made}
use Rattle.log_makers.proofs.header_of.Goals as goal

pub returns : goal.returns
returns c = search header_made

use Rattle.log_makers.proofs.Laws.{bare_long_enough, bare_made, bare_none}
use Rattle.log_makers.proofs.bare_set_record.Goals as goal

pub returns-then-section-input : goal.returns-then-section-input
returns-then-section-input c = search bare_none

pub header_of-requires : goal.header_of-requires
header_of-requires c = search bare_long_enough

pub returns : goal.returns
returns c = search bare_made

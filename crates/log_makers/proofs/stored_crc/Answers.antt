use Rattle.section.specs.Header.{stored_crc}
use Rattle.log_makers.proofs.stored_crc.Goals as goal

pub returns : goal.returns
unfolding stored_crc
returns c = c.stored.ensures

-- `section::header::stored_crc` meets its contract. Assumes nothing.
use Rattle.section.specs.Header.{stored_crc}
use Rattle.section.proofs.header.stored_crc.Goals as goal

pub returns : goal.returns
unfolding stored_crc
returns c = c.stored.ensures

use Rattle.reader_rows.proofs.Ways.{unit_there, unit_absent}
use Rattle.reader_rows.proofs.unit_taken.Goals as goal

pub returns-then-is_present : goal.returns-then-is_present
returns-then-is_present c = search unit_there

pub returns : goal.returns
returns c = search unit_absent

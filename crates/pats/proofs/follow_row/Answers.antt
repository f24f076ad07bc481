use Rattle.pats.proofs.Ways.{row_ok, row_followed}
use Rattle.pats.proofs.follow_row.Goals as goal

pub add_programs-requires : goal.add_programs-requires
add_programs-requires c = record { row_value = row_ok c.args.words.now c.args.slots.now c.args.cells.now c.row_slots-row.result.now c.requires c.row_slots-row.ensures; in_bounds = c.requires.cells }

pub returns : goal.returns
returns c = search row_followed

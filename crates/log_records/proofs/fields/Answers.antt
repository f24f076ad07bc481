use Rattle.log_records.proofs.Reading.{last_room, of_10, of_13, of_6, of_8}
use Rattle.log_records.proofs.fields.Goals as goal

pub returns-then-size-eq13 : goal.returns-then-size-eq13
returns-then-size-eq13 c = search of_13

pub returns-then-size-eq6 : goal.returns-then-size-eq6
returns-then-size-eq6 c = search of_6

pub returns-then-size-eq10 : goal.returns-then-size-eq10
returns-then-size-eq10 c = search of_10

pub bare_set_at-requires : goal.bare_set_at-requires
bare_set_at-requires c = search last_room

pub returns : goal.returns
returns c = search of_8

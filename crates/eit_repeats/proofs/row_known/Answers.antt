use Rattle.eit_repeats.proofs.Ways.{row_long, row_known}
use Rattle.eit_repeats.proofs.row_known.Goals as goal

pub becomes_of-requires : goal.becomes_of-requires
becomes_of-requires c = let a = c.args in row_long a.sets a.heads.now a.slots.now a.cells.now a.tags.now a.bytes.now a.a c.requires.searchable c.find-i.result c.find-i.ensures c.if-used-i.false c.place_known.result c.place_known.ensures c.in-Repeat.row c.in-Repeat.is

pub returns-in-Stays : goal.returns-in-Stays
returns-in-Stays c = let a = c.args in row_known a.sets a.heads.now a.slots.now a.cells.now a.tags.now a.bytes.now a.a c.requires.searchable c.find-i.result c.find-i.ensures c.if-used-i.false c.place_known.result c.place_known.ensures c.in-Repeat.row c.in-Repeat.is c.if-sets-bytes.false c.becomes_of.result c.becomes_of.ensures c.in-Stays.is

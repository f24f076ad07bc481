use lib.ListN.{length}
use Rattle.eit_repeats.proofs.Ways.{column_may}
use borrow.Author.Rules.{rules}
use Rattle.eit_repeats.proofs.push_first.Goals as goal

pub fill-requires : goal.fill-requires
fill-requires c = let a = c.args in column_may a.eit.sets a.heads.now a.slots.now a.cells.now c.room-tags.result (length a.list.now) c.pays.result c.room-tags.ensures c.pays.ensures c.if-pays.true c.requires.whole

pub push_repeats-requires : goal.push_repeats-requires
push_repeats-requires c = let a = c.args in let m = (column_may a.eit.sets a.heads.now a.slots.now a.cells.now c.room-tags.result (length a.list.now) c.pays.result c.room-tags.ensures c.pays.ensures c.if-pays.true c.requires.whole).0 in record { searchable = record { whole = c.requires.whole; long = search rules; tells = c.fill.ensures }; whole_from = c.requires.whole_from }

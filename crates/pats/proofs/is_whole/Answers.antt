use lib.ListN.{length}
use Rattle.pats.proofs.Ways.{room_long, whole_is, whole_short}
use Rattle.pats.proofs.is_whole.Goals as goal

pub row_whole-requires : goal.row_whole-requires
row_whole-requires c = let a = c.args in
    let l = room_long (length a.words.now) (length a.slots.now) (length a.cells.now) c.has_room.result c.has_room.ensures c.if-has_room.true in
    (l.words, l.slots)

pub returns-then-has_room : goal.returns-then-has_room
returns-then-has_room c = search whole_is

pub returns : goal.returns
returns c = search whole_short

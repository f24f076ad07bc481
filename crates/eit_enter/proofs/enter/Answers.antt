use Rattle.eit_enter.proofs.Ways.{room_row, room_heads, room_units, entered_done}
use mathlib.Core.Path.{refl}
use borrow.Author.Rules.{rules}
use Rattle.eit_enter.proofs.enter.Goals as goal

pub put_head-requires : goal.put_head-requires
put_head-requires c = (search room_row, search room_heads)

pub put_units-requires : goal.put_units-requires
put_units-requires c = (search (room_units, refl), search rules, search rules, search rules)

pub tables_there-requires : goal.tables_there-requires
tables_there-requires c = search room_units

pub returns : goal.returns
returns c = search entered_done

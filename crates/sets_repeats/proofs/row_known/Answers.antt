use native.Mathlib.Omega.{arith}
use Rattle.store.specs.Store.{store}
use Rattle.sets_repeats.proofs.Ways.{repeat_row, known_repeat}
use Rattle.sets_repeats.proofs.row_known.Goals as goal

pub goes_out-requires : goal.goes_out-requires
goes_out-requires c = let a = c.args in let w = c.requires.searchable.whole in let l = repeat_row (store a.sets a.heads.now a.slots.now a.cells.now) a.e a.bytes.now w (omega arith) c.find-i.result c.place_known.result c.find-i.ensures (omega arith) c.place_known.ensures c.in-Repeat.row c.in-Repeat.is in (omega (arith, l, w.used, w.heads_long), omega (arith, l, w.used, w.slots_long))

pub returns-else-goes_out : goal.returns-else-goes_out
returns-else-goes_out c = let a = c.args in let w = c.requires.searchable.whole in known_repeat (store a.sets a.heads.now a.slots.now a.cells.now) a.e a.bytes.now w (omega arith) c.find-i.result c.place_known.result c.find-i.ensures (omega arith) c.place_known.ensures c.in-Repeat.row c.in-Repeat.is c.goes_out.result c.goes_out.ensures c.if-goes_out.false

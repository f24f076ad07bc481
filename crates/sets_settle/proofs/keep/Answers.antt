use mathlib.Core.Path.{◌∙◌}
use native.Mathlib.Omega.{arith}
use lib.ListN.{length}
use Rattle.store.proofs.Whole.{product_fits, cell_fits}
use Rattle.sets_settle.proofs.Doing.{kept_left}
use Rattle.sets_settle.proofs.keep.Goals as goal

pub overflow_mul-k : goal.overflow_mul-k
overflow_mul-k c = let p = c.requires in product_fits c.args.k.cell c.args.sets.size (omega (arith, p.cell, p.whole.few)) p.whole.size_high

pub keep-requires : goal.keep-requires
keep-requires c = let a = c.args in let p = c.requires in cell_fits a.sets a.heads.now a.slots.now a.cells.now (length a.bytes.now) a.k.cell p.whole p.cell p.fits

pub settle-requires : goal.settle-requires
settle-requires c = let p = c.requires in omega (arith, p.whole, p.room, c.keep_head.auto, c.keep_slot.auto)

pub shape_of-heads : goal.shape_of-heads
shape_of-heads c = c.settle.auto.heads ∙ c.keep_head.auto.heads

pub shape_of-slots : goal.shape_of-slots
shape_of-slots c = c.keep_slot.auto.slots

pub shape_of-cells : goal.shape_of-cells
shape_of-cells c = c.keep.auto.cells

pub returns : goal.returns
returns c = let a = c.args in
    kept_left a.sets a.heads.now a.slots.now a.cells.now a.bytes.now a.k c.slot_word.result c.settle.result c.keep_head.new.heads c.settle.new.heads
    c.keep_slot.new.slots c.keep.new.cells c.slot_word.ensures c.keep_head.ensures c.keep_slot.ensures c.keep.ensures c.settle.ensures.value c.settle.ensures.heads_after

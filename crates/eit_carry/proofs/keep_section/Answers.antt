use Rattle.eit_carry.proofs.Ways.{cell_may, kept_runs, kept_may, kept_left}
use mathlib.Core.Path.{◌∙◌}
use Rattle.eit_carry.proofs.keep_section.Goals as goal

pub keep-requires : goal.keep-requires
keep-requires c = search cell_may

pub risen-requires : goal.risen-requires
risen-requires c = search kept_runs

pub settle-requires : goal.settle-requires
settle-requires c = let a = c.args in
    let k = c.keep in
    let w = c.with_sets-then in
    let e = c.risen in
    kept_may a.eit a.heads.now a.slots.now a.cells.now a.schedule_heads.now a.units.now a.bytes.now a.k c.requires w.result e.result k.new.heads k.new.slots w.ensures e.ensures k.auto.heads k.auto.slots

pub shape_of-heads : goal.shape_of-heads
shape_of-heads c = c.settle.auto.heads ∙ c.keep.auto.heads

pub returns : goal.returns
returns c = let a = c.args in
    let k = c.keep in
    let w = c.with_sets-then in
    let e = c.risen in
    let s = c.settle in
    kept_left a.eit a.heads.now a.slots.now a.cells.now a.schedule_heads.now a.units.now a.bytes.now a.k w.result e.result s.result
    k.new.heads k.new.slots k.new.cells s.new.heads s.new.schedule_heads s.new.units
    k.ensures.heads_after k.ensures.slots_after k.ensures.cells_after w.ensures e.ensures s.ensures

use mathlib.Core.Path.{refl, sym, ◌∙◌}
use native.Mathlib.Omega.{arith}
use Rattle.pats.proofs.Ways.{slot_ok, row_turn, row_end}
use Rattle.pats.proofs.add_programs.Goals as goal

pub loop-w-init : goal.loop-w-init
loop-w-init c = (omega arith, refl)

pub add_section-requires : goal.add_section-requires
add_section-requires c = record { w_value = slot_ok c.args.row.now c.args.cells.now c.loop-w.w-index c.requires.row_value (omega arith); in_bounds = c.requires.in_bounds }

pub loop-w-preserved : goal.loop-w-preserved
loop-w-preserved c = let l = c.loop-w in
    let a = c.args in
    (omega arith, rw c.add_section.ensures (sym (row_turn a.row.now a.cells.now l.w-index l.n (omega arith)) ∙ l.invariant.1))

pub returns : goal.returns
returns c = let l = c.loop-w in
    let a = c.args in
    sym (row_end a.row.now a.cells.now l.w-index l.n (omega arith)) ∙ l.invariant.1

use borrow.Author.Tests.{not-true, not-false}
use borrow.Author.Rules.{rules}
use native.Mathlib.Omega.{arith}
use mathlib.Core.Path.{refl, sym, ◌∙◌}
use Rattle.shown_sections.proofs.Ways.{slots_on, slots_stop, slots_end, slots_begin}
use mathlib.Core.Path.{ap}
use mathlib.Core.Bool.{not}
use Rattle.shown_sections.proofs.show_slots.Goals as goal

pub loop-j-init : goal.loop-j-init
loop-j-init c = let a = c.args in (omega arith, omega arith, refl, slots_begin a.skip a.cells.now a.size a.slots.now a.list.now)

pub show_slot-last-requires : goal.show_slot-last-requires
show_slot-last-requires c = let p = c.requires in let l = c.loop-j in record { held_slot = p.held_slots.each l.j c.loop-j-test.true; number_bound = (omega (arith, p.slots_len_bound.0), p.slots_len_bound.1, l.invariant.1) }

pub returns-then-not-goes_on : goal.returns-then-not-goes_on
returns-then-not-goes_on c = let a = c.args in let l = c.loop-j in
    sym (slots_stop a.skip a.cells.now a.size a.slots.now l.j l.k l.list _ _ _ c.loop-j-test.true c.show_slot-last.ensures.0 c.goes_on.ensures (not-true _ (ap not c.if-not-goes_on.true)))
    ∙ l.invariant.3

pub loop-j-preserved : goal.loop-j-preserved
loop-j-preserved c = let a = c.args in let l = c.loop-j in (
  omega (arith, c.loop-j-test.true),
  omega (arith, c.show_slot-last.ensures.1, l.invariant.1),
  search rules,
  sym (slots_on a.skip a.cells.now a.size a.slots.now l.j l.k l.list _ _ _ c.loop-j-test.true c.show_slot-last.ensures.0 c.goes_on.ensures (not-false _ (ap not c.if-not-goes_on.false)))
      ∙ l.invariant.3,
)

pub returns : goal.returns
returns c = let a = c.args in let l = c.loop-j in
    sym (slots_end a.skip a.cells.now a.size a.slots.now l.j l.k l.list _ c.loop-j-test.false c.ended.ensures) ∙ l.invariant.3

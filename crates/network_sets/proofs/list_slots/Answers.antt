use borrow.Author.Rules.{rules}
use native.Mathlib.Omega.{arith}
use mathlib.Core.Path.{refl, sym, ◌∙◌}
use Rattle.network_sets.proofs.Ways.{slot_in, entries_on, entries_end}
use Rattle.network_sets.proofs.list_slots.Goals as goal

pub loop-j-init : goal.loop-j-init
loop-j-init c = (omega arith, omega arith, refl, refl)

pub list_slot-k-requires : goal.list_slot-k-requires
list_slot-k-requires c = let p = c.requires in let l = c.loop-j in let h = c.loop-j-test.true in record { slot_in = slot_in _ _ _ l.j p.slots_in h; number_bound = (omega (arith, p.slots_in.few, h), l.invariant.1); w_value = p.all_taken.each l.j h }

pub loop-j-preserved : goal.loop-j-preserved
loop-j-preserved c = let a = c.args in let l = c.loop-j in let h = c.loop-j-test.true in (
  omega (arith, h),
  omega (arith, c.list_slot-k.ensures.1, l.invariant.1),
  search rules,
  sym (entries_on a.table a.cells.now a.size a.slots.now a.skip l.j l.k l.list h _ _ c.list_slot-k.ensures.0) ∙ l.invariant.3,
)

pub returns : goal.returns
returns c = let a = c.args in let l = c.loop-j in sym (entries_end a.table a.cells.now a.size a.slots.now a.skip l.j l.k l.list c.loop-j-test.false) ∙ l.invariant.3

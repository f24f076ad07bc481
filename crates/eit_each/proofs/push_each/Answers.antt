use mathlib.Core.Path.{refl, sym, ◌∙◌}
use native.Mathlib.Omega.{arith}
use borrow.Author.Rules.{rules}
use Rattle.eit_state.specs.State.{store}
use Rattle.eit.specs.Store.{pushed}
use Rattle.log_list.proofs.Laws.{gave_next, gave_end}
use Rattle.eit_each.proofs.Ways.{goes_on_lem, stops, each_end, each_turn, each_stop}
use Rattle.eit_each.proofs.push_each.Goals as goal

pub loop-place-init : goal.loop-place-init
loop-place-init c = (search rules, tt, search rules, search rules, refl, refl, refl, refl, refl, c.requires.pushable, c.requires.whole_from, refl)

pub push_at-pushed-requires : goal.push_at-pushed-requires
push_at-pushed-requires c = let n = gave_next c.loop-place.place-iterator c.next.new.self c.loop-place.invariant.2 c.loop-place.invariant.3 c.in-Some.ensures.steps in record { pushable = c.loop-place.invariant.9; length_in_bounds = n.0.behind.within }

pub overflow_add-at : goal.overflow_add-at
overflow_add-at c = let n = gave_next c.loop-place.place-iterator c.next.new.self c.loop-place.invariant.2 c.loop-place.invariant.3 c.in-Some.ensures.steps in let w = n.0.behind.within in omega (arith, w, c.well_formed.1.1.1.1.1.1.0)

pub returns-then-number-ne4 : goal.returns-then-number-ne4
returns-then-number-ne4 c = let n = gave_next c.loop-place.place-iterator c.next.new.self c.loop-place.invariant.2 c.loop-place.invariant.3 c.in-Some.ensures.steps in let a = c.args in let i = c.loop-place in let k = c.push_at-pushed in let l = pushed k.result k.new.heads k.new.slots k.new.cells k.new.schedule_heads k.new.units in sym (each_stop a.list.now i.at (store i.held i.heads i.slots i.cells i.schedule_heads i.units) c.in-Some.place n.0 l k.ensures.units_after (stops k.result.answer l.store c.number.result c.number.ensures c.if-number-ne4.true)) ∙ i.invariant.11

pub loop-place-preserved : goal.loop-place-preserved
loop-place-preserved c = let n = gave_next c.loop-place.place-iterator c.next.new.self c.loop-place.invariant.2 c.loop-place.invariant.3 c.in-Some.ensures.steps in let a = c.args in let i = c.loop-place in let k = c.push_at-pushed in let l = pushed k.result k.new.heads k.new.slots k.new.cells k.new.schedule_heads k.new.units in (c.in-Some.ensures.goes.keeps, tt, n.2, n.1, search rules, search rules, search rules, search rules, search rules, k.ensures.pushable_2, n.0.behind, sym (each_turn a.list.now i.at (store i.held i.heads i.slots i.cells i.schedule_heads i.units) c.in-Some.place n.0 l k.ensures.units_after (goes_on_lem k.result.answer l.store c.number.result c.number.ensures c.if-number-ne4.false)) ∙ i.invariant.11)

pub returns : goal.returns
returns c = let a = c.args in let i = c.loop-place in sym (each_end a.list.now i.at (store i.held i.heads i.slots i.cells i.schedule_heads i.units) (gave_end c.loop-place.place-iterator c.next.new.self c.loop-place.invariant.2 c.loop-place.invariant.3 c.in-None.ensures.steps)) ∙ i.invariant.11

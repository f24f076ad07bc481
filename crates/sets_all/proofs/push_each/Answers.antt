use mathlib.Core.Path.{refl, sym, ◌∙◌}
use Prim.Native.Nat.{◌+◌}
use native.Mathlib.Omega.{arith}
use borrow.Author.Rules.{rules}
use Rattle.store.specs.Store.{store}
use Rattle.sets_settle.specs.Settle.{nothing, after_push}
use Rattle.sets_all.specs.All.{of, all_after}
use Rattle.log_list.proofs.Laws.{gave_next, gave_end}
use Rattle.sets_all.proofs.Ways.{goes_on_lem, stops, each_end, each_turn, each_stop, rest_pushed}
use Rattle.sets_all.proofs.push_each.Goals as goal

pub push_first-first-requires : goal.push_first-first-requires
push_first-first-requires c = record { whole = c.requires.pushable.whole; used_value = c.requires.pushable.pids; whole_from = c.requires.whole_from }

pub loop-place-init : goal.loop-place-init
loop-place-init c = let k = c.push_first-first.ensures in (search rules, tt, search rules, search rules, refl, refl, refl, record { whole = k.whole_2; pids = k.used_after }, k.whole_from_2, refl)

pub push_at-pushed-requires : goal.push_at-pushed-requires
push_at-pushed-requires c = let n = gave_next c.loop-place.place-iterator c.next.new.self c.loop-place.invariant.2 c.loop-place.invariant.3 c.in-Some.ensures.steps in record { pushable = c.loop-place.invariant.7; length_in_bounds = n.0.behind.within }

pub overflow_add-at : goal.overflow_add-at
overflow_add-at c = let n = gave_next c.loop-place.place-iterator c.next.new.self c.loop-place.invariant.2 c.loop-place.invariant.3 c.in-Some.ensures.steps in let w = n.0.behind.within in omega (arith, w, c.well_formed.1.1.1.1.0)

pub returns-then-number-ne4 : goal.returns-then-number-ne4
returns-then-number-ne4 c = let n = gave_next c.loop-place.place-iterator c.next.new.self c.loop-place.invariant.2 c.loop-place.invariant.3 c.in-Some.ensures.steps in let a = c.args in let i = c.loop-place in let k = c.push_at-pushed in let l = after_push k.result k.new.heads k.new.slots k.new.cells in let w = all_after (of l.told) l.store (c.in-Some.place.start + c.in-Some.place.length) in let f = c.push_first-first in rest_pushed a.list.now (store a.sets a.heads.now a.slots.now a.cells.now) (store f.result.sets f.new.heads a.slots.now a.cells.now) f.result.at w f.ensures.passed (sym (each_stop a.list.now i.at (store i.held i.heads i.slots i.cells) c.in-Some.place n.0 l k.ensures.cells_after (stops k.result.answer l.store c.number.result c.number.ensures c.if-number-ne4.true)) ∙ i.invariant.9)

pub loop-place-preserved : goal.loop-place-preserved
loop-place-preserved c = let n = gave_next c.loop-place.place-iterator c.next.new.self c.loop-place.invariant.2 c.loop-place.invariant.3 c.in-Some.ensures.steps in let a = c.args in let i = c.loop-place in let k = c.push_at-pushed in let l = after_push k.result k.new.heads k.new.slots k.new.cells in (c.in-Some.ensures.goes.keeps, tt, n.2, n.1, search rules, search rules, search rules, k.ensures.pushable_2, n.0.behind, sym (each_turn a.list.now i.at (store i.held i.heads i.slots i.cells) c.in-Some.place n.0 l k.ensures.cells_after (goes_on_lem k.result.answer l.store c.number.result c.number.ensures c.if-number-ne4.false)) ∙ i.invariant.9)

pub returns : goal.returns
returns c = let a = c.args in let i = c.loop-place in let f = c.push_first-first in rest_pushed a.list.now (store a.sets a.heads.now a.slots.now a.cells.now) (store f.result.sets f.new.heads a.slots.now a.cells.now) f.result.at (all_after (of nothing) (store i.held i.heads i.slots i.cells) i.at) f.ensures.passed (sym (each_end a.list.now i.at (store i.held i.heads i.slots i.cells) (gave_end c.loop-place.place-iterator c.next.new.self c.loop-place.invariant.2 c.loop-place.invariant.3 c.in-None.ensures.steps)) ∙ i.invariant.9)

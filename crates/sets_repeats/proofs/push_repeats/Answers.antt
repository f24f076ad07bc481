use mathlib.Core.Path.{refl}
use native.Mathlib.Omega.{arith}
use borrow.Author.Rules.{rules}
use Rattle.store.specs.Store.{store}
use Rattle.sets_repeats.specs.Repeats.{start}
use Rattle.log_list.proofs.Laws.{gave_next}
use Rattle.sets_repeats.proofs.Ways.{repeat_turn}
use Rattle.sets_repeats.proofs.push_repeats.Goals as goal

pub loop-place-init : goal.loop-place-init
loop-place-init c = (search rules, tt, search rules, search rules, refl, c.requires.searchable, c.requires.whole_from, start)

pub row_at-requires : goal.row_at-requires
row_at-requires c = let n = gave_next c.loop-place.place-iterator c.next.new.self c.loop-place.invariant.2 c.loop-place.invariant.3 c.in-Some.ensures.steps in record { searchable = c.loop-place.invariant.5; length_in_bounds = n.0.behind.within }

pub overflow_add-held : goal.overflow_add-held
overflow_add-held c = let r = c.in-Some-row_at.ensures.runs in omega (arith, r)

pub touch-requires : goal.touch-requires
touch-requires c = let w = c.loop-place.invariant.5.whole in let k = c.in-Some-row_at.ensures.row in omega (arith, w.used, w.heads_long, k)

pub risen-held-requires : goal.risen-held-requires
risen-held-requires c = c.in-Some-row_at.ensures.runs

pub overflow_add-at : goal.overflow_add-at
overflow_add-at c = let n = gave_next c.loop-place.place-iterator c.next.new.self c.loop-place.invariant.2 c.loop-place.invariant.3 c.in-Some.ensures.steps in let w = n.0.behind.within in omega (arith, w, c.well_formed.1.1.1.1.1.0)

pub loop-place-preserved : goal.loop-place-preserved
loop-place-preserved c = let n = gave_next c.loop-place.place-iterator c.next.new.self c.loop-place.invariant.2 c.loop-place.invariant.3 c.in-Some.ensures.steps in let a = c.args in let i = c.loop-place in let w = n.0 in let t = repeat_turn a.list.now (store a.sets a.heads.now a.slots.now a.cells.now) i.held i.heads a.slots.now a.cells.now a.tags.now i.at c.in-Some.place c.in-Some-row_at.i c.risen-held.result c.touch.new.heads i.invariant.5 c.in-Some-row_at.ensures w i.invariant.7 c.touch.ensures c.risen-held.ensures in (c.in-Some.ensures.goes.keeps, tt, n.2, n.1, search rules, t.0, w.behind, t.1)

pub returns : goal.returns
returns c = let i = c.loop-place.invariant in record { passed = i.7; searchable_2 = i.5; whole_from_2 = i.6 }

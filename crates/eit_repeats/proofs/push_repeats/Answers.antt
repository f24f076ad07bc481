use mathlib.Core.Path.{refl}
use native.Mathlib.Omega.{arith}
use borrow.Author.Rules.{rules}
use Rattle.log_list.specs.List.{given_at}
use Rattle.log_list.proofs.Laws.{gave_next}
use Rattle.eit_repeats.proofs.Ways.{searchable_touched, repeat_runs, passed_none, passed_more}
use Rattle.eit_repeats.proofs.push_repeats.Goals as goal

pub loop-place-init : goal.loop-place-init
loop-place-init c = let a = c.args in (search rules, tt, search rules, search rules, refl, c.requires.searchable, passed_none a.list.now a.slots.now a.cells.now a.eit a.heads.now c.requires.whole_from)

pub row_at-requires : goal.row_at-requires
row_at-requires c = let n = gave_next c.loop-place.place-iterator c.next.new.self c.loop-place.invariant.2 c.loop-place.invariant.3 c.in-Some.ensures.steps in record { searchable = c.loop-place.invariant.5; length_in_bounds = n.0.behind.within }

pub overflow_add-at : goal.overflow_add-at
overflow_add-at c = let n = gave_next c.loop-place.place-iterator c.next.new.self c.loop-place.invariant.2 c.loop-place.invariant.3 c.in-Some.ensures.steps in let w = n.0.behind.within in omega (arith, w, c.well_formed.1.1.1.1.1.0)

pub risen-held-requires : goal.risen-held-requires
risen-held-requires c = let a = c.args in let i = c.loop-place in repeat_runs i.held i.heads a.slots.now a.cells.now (given_at a.list.now c.in-Some.place) c.in-Some-row_at.i c.in-Some-row_at.ensures

pub touch-requires : goal.touch-requires
touch-requires c = let w = c.loop-place.invariant.5.whole in let k = c.in-Some-row_at.ensures.known.row in omega (arith, w.used, w.heads_long, k)

pub loop-place-preserved : goal.loop-place-preserved
loop-place-preserved c = let n = gave_next c.loop-place.place-iterator c.next.new.self c.loop-place.invariant.2 c.loop-place.invariant.3 c.in-Some.ensures.steps in let a = c.args in let i = c.loop-place in (c.in-Some.ensures.goes.keeps, tt, n.2, n.1, search rules, searchable_touched i.held c.risen-held.result i.heads a.slots.now a.cells.now a.tags.now c.touch.new.heads c.in-Some-row_at.i c.risen-held.ensures c.touch.ensures i.invariant.5, passed_more a.list.now a.slots.now a.cells.now a.eit a.heads.now i.held i.heads i.at c.in-Some.place c.in-Some-row_at.i c.risen-held.result c.touch.new.heads i.invariant.6 n.0 c.in-Some-row_at.ensures c.risen-held.ensures c.touch.ensures)

pub returns : goal.returns
returns c = c.loop-place.invariant.6

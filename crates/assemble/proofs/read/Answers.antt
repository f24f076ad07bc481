use Rattle.assemble.proofs.Laws.{part_ordered, part_inside, part_lies, has_places, few_under, can_add, can_keep, can_add_under, all_left_lem}
use native.Mathlib.Omega.{arith}
use Rattle.assemble.proofs.read.Goals as goal

pub slice_bounds-go_on-count : goal.slice_bounds-go_on-count
slice_bounds-go_on-count c = search part_ordered

pub slice_bounds-go_on-start : goal.slice_bounds-go_on-start
slice_bounds-go_on-start c = search part_ordered

pub slice_bounds-go_on-end : goal.slice_bounds-go_on-end
slice_bounds-go_on-end c = search part_inside

pub go_on-gone-requires : goal.go_on-gone-requires
go_on-gone-requires c = search part_lies

pub begin_in-begun-requires : goal.begin_in-begun-requires
begin_in-begun-requires c = search has_places

pub overflow_sub-at : goal.overflow_sub-at
overflow_sub-at c = search few_under

pub overflow_add-gone : goal.overflow_add-gone
overflow_add-gone c = let a = c.args in
    let s = c.split-parts in
    let g = c.go_on-gone in
    omega (arith, can_add a.buffer.now a.number a.under a.load a.packet.now a.places.now c.requires s.result s.ensures g.result g.ensures.value)

pub keep-requires : goal.keep-requires
keep-requires c = let a = c.args in
    let s = c.split-parts in
    let g = c.go_on-gone in
    let t = c.tell_ended-count in
    let b = c.begin_in-begun in
    omega (
      arith,
      can_keep a.buffer.now a.number a.under a.load a.packet.now a.places.now c.requires s.result s.ensures g.result g.ensures.value
          t.new.places t.result t.ensures.value t.ensures.places_after b.result b.ensures.value g.new.buffer g.auto.buffer,
    )

pub overflow_add-result : goal.overflow_add-result
overflow_add-result c = let a = c.args in
    let s = c.split-parts in
    let g = c.go_on-gone in
    let t = c.tell_ended-count in
    let b = c.begin_in-begun in
    omega (
      arith,
      can_add_under a.buffer.now a.number a.under a.load a.packet.now a.places.now c.requires s.result s.ensures g.result g.ensures.value
          t.new.places t.result t.ensures.value t.ensures.places_after b.result b.ensures.value,
    )

pub returns : goal.returns
returns c = let r = let a = c.args in
    let s = c.split-parts in
    let g = c.go_on-gone in
    let t = c.tell_ended-count in
    let b = c.begin_in-begun in
    all_left_lem a.buffer.now a.number a.under a.load a.packet.now a.places.now c.requires s.result s.ensures g.result g.ensures.value
    t.new.places t.result t.ensures.value t.ensures.places_after b.result b.ensures.value g.new.buffer c.keep.new.cells b.new.places g.ensures.buffer_after c.keep.ensures b.ensures.places_after in record { value = r.0; buffer_after = r.1.0; places_after = r.1.1 }

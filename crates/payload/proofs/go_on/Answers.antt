use Rattle.payload.proofs.Laws.{nothing_under, ends_later, ends_within, end_joins, is_finished, is_dropped_lem, is_longer}
use Rattle.payload.proofs.go_on.Goals as goal

pub returns-then-size-eq0 : goal.returns-then-size-eq0
returns-then-size-eq0 c = let r = let a = c.args in nothing_under a.buffer.now a.part.now a.under a.start c.if-size-eq0.true in record { value = r.0; buffer_after = r.1 }

pub overflow_sub-more : goal.overflow_sub-more
overflow_sub-more c = search ends_later

pub slice_bounds-join-end : goal.slice_bounds-join-end
slice_bounds-join-end c = search ends_within

pub join-requires : goal.join-requires
join-requires c = search end_joins

pub returns-then-all-ne0 : goal.returns-then-all-ne0
returns-then-all-ne0 c = let r = let a = c.args in is_finished a.buffer.now a.part.now a.under a.start c.requires c.if-size-eq0.false c.end_in-all.result c.end_in-all.ensures.0 c.if-all-ne0.true c.join.new.buffer c.join.ensures in record { value = r.0; buffer_after = r.1 }

pub returns-then-start : goal.returns-then-start
returns-then-start c = let r = let a = c.args in is_dropped_lem a.buffer.now a.part.now a.under a.start c.requires c.if-size-eq0.false c.end_in-all.result c.end_in-all.ensures.0 c.if-all-ne0.false c.if-start.true in record { value = r.0; buffer_after = r.1 }

pub returns : goal.returns
returns c = let r = let a = c.args in is_longer a.buffer.now a.part.now a.under a.start c.requires c.if-size-eq0.false c.end_in-all.result c.end_in-all.ensures.0 c.if-all-ne0.false c.join-2.new.buffer c.if-start.false c.join-2.ensures in record { value = r.0; buffer_after = r.1 }

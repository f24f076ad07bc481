use Rattle.log_list.specs.List.{givens_from}
use Rattle.sets_all.specs.All.{after_all}
use Rattle.sets_all.proofs.Ways.{listed_broken, listed_full, listed_without, listed_each, looked}
use Rattle.sets_all.proofs.push_listed.Goals as goal

pub returns-then-counters_full : goal.returns-then-counters_full
returns-then-counters_full c = let a = c.args in let s = c.look-seen in let f = c.counters_full in listed_full a.sets a.heads.now a.slots.now a.cells.now (givens_from a.list.now 0) s.result.whole s.ensures.whole_value f.result f.ensures c.if-seen.true c.refuse.result c.if-counters_full.true c.refuse.ensures

pub returns-then-seen-2 : goal.returns-then-seen-2
returns-then-seen-2 c = let a = c.args in let s = c.look-seen in let f = c.counters_full in listed_without a.sets a.heads.now a.slots.now a.cells.now (givens_from a.list.now 0) s.result.whole s.ensures.whole_value f.result f.ensures c.if-seen.true s.result.without c.refuse-then-seen-2.result c.if-counters_full.false (s.ensures.without_value c.if-seen.true) c.if-seen-2.true c.refuse-then-seen-2.ensures

pub push_each-requires : goal.push_each-requires
push_each-requires c = let a = c.args in let s = c.look-seen in record { pushable = looked a.sets a.heads.now a.slots.now a.cells.now s.result.whole s.result.without s.ensures.whole_value c.if-seen.true (s.ensures.without_value c.if-seen.true) c.if-seen-2.false; whole_from = c.requires }

pub returns-then-seen : goal.returns-then-seen
returns-then-seen c = let a = c.args in let s = c.look-seen in let f = c.counters_full in let k = c.push_each in listed_each a.sets a.heads.now a.slots.now a.cells.now (givens_from a.list.now 0) s.result.whole s.ensures.whole_value f.result f.ensures c.if-seen.true s.result.without (after_all k.result k.new.heads k.new.slots k.new.cells) c.if-counters_full.false (s.ensures.without_value c.if-seen.true) c.if-seen-2.false k.ensures

pub returns : goal.returns
returns c = let a = c.args in let s = c.look-seen in listed_broken a.sets a.heads.now a.slots.now a.cells.now (givens_from a.list.now 0) s.result.whole s.ensures.whole_value c.refuse-2.result c.if-seen.false c.refuse-2.ensures

use Rattle.log_list.specs.List.{givens_from}
use Rattle.eit_pids.proofs.Heads.{heads_fit, either_without}
use Rattle.eit_each.specs.Each.{after_all}
use Rattle.eit_all.proofs.Ways.{listed_broken, listed_full, listed_without, listed_each, first_each, looked}
use Rattle.eit_all.proofs.push_listed.Goals as goal

pub returns-then-counters_full : goal.returns-then-counters_full
returns-then-counters_full c = let a = c.args in let s = c.look-seen in let f = c.counters_full in listed_full a.eit a.heads.now a.slots.now a.cells.now a.schedule_heads.now a.units.now (givens_from a.list.now 0) s.result.whole s.ensures.whole_value c.if-seen.true f.result f.ensures c.refuse.result c.if-counters_full.true c.refuse.ensures

pub any_without_pid-requires : goal.any_without_pid-requires
any_without_pid-requires c = let a = c.args in let s = c.look-seen in (heads_fit a.eit a.heads.now a.slots.now a.cells.now a.schedule_heads.now a.units.now s.result.whole s.ensures.whole_value c.if-seen.true).schedules

pub returns-then-seen-any_without_pid : goal.returns-then-seen-any_without_pid
returns-then-seen-any_without_pid c = let a = c.args in let s = c.look-seen in let n = c.any_without_pid in let o = either_without a.eit a.heads.now a.schedule_heads.now s.result.without n.result (s.ensures.without_value c.if-seen.true) n.ensures in let f = c.counters_full in listed_without a.eit a.heads.now a.slots.now a.cells.now a.schedule_heads.now a.units.now (givens_from a.list.now 0) s.result.whole s.ensures.whole_value c.if-seen.true f.result f.ensures c.if-counters_full.false _ o c.refuse-then-seen-any_without_pid.result c.if-seen-any_without_pid.true c.refuse-then-seen-any_without_pid.ensures

pub push_first-first-requires : goal.push_first-first-requires
push_first-first-requires c = let a = c.args in let s = c.look-seen in let n = c.any_without_pid in let o = either_without a.eit a.heads.now a.schedule_heads.now s.result.without n.result (s.ensures.without_value c.if-seen.true) n.ensures in record { whole = (looked a.eit a.heads.now a.slots.now a.cells.now a.schedule_heads.now a.units.now s.result.whole _ s.ensures.whole_value c.if-seen.true o c.if-seen-any_without_pid.false).whole.fits.sets; whole_from = c.requires }

pub push_each-requires : goal.push_each-requires
push_each-requires c = let a = c.args in let s = c.look-seen in let n = c.any_without_pid in let o = either_without a.eit a.heads.now a.schedule_heads.now s.result.without n.result (s.ensures.without_value c.if-seen.true) n.ensures in let d = c.push_first-first.ensures in record { pushable = d.stays a.schedule_heads.now a.units.now (looked a.eit a.heads.now a.slots.now a.cells.now a.schedule_heads.now a.units.now s.result.whole _ s.ensures.whole_value c.if-seen.true o c.if-seen-any_without_pid.false); whole_from = d.behind }

pub returns-then-seen : goal.returns-then-seen
returns-then-seen c = let a = c.args in let s = c.look-seen in let n = c.any_without_pid in let o = either_without a.eit a.heads.now a.schedule_heads.now s.result.without n.result (s.ensures.without_value c.if-seen.true) n.ensures in let f = c.counters_full in let k = c.push_each in let y = c.push_first-first in let w = looked a.eit a.heads.now a.slots.now a.cells.now a.schedule_heads.now a.units.now s.result.whole _ s.ensures.whole_value c.if-seen.true o c.if-seen-any_without_pid.false in listed_each a.eit a.heads.now a.slots.now a.cells.now a.schedule_heads.now a.units.now (givens_from a.list.now 0) s.result.whole s.ensures.whole_value c.if-seen.true f.result f.ensures c.if-counters_full.false _ o (after_all k.result k.new.heads k.new.slots k.new.cells k.new.schedule_heads k.new.units) c.if-seen-any_without_pid.false (first_each a.eit y.result.eit a.heads.now a.slots.now a.cells.now a.schedule_heads.now a.units.now y.new.heads a.list.now y.result.at (after_all k.result k.new.heads k.new.slots k.new.cells k.new.schedule_heads k.new.units) y.ensures w k.ensures)

pub returns : goal.returns
returns c = let a = c.args in let s = c.look-seen in listed_broken a.eit a.heads.now a.slots.now a.cells.now a.schedule_heads.now a.units.now (givens_from a.list.now 0) s.result.whole s.ensures.whole_value c.refuse-2.result c.if-seen.false c.refuse-2.ensures

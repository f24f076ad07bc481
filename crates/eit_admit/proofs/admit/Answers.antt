use Rattle.eit_admit.proofs.Ways.{admit_broken, admit_full, admit_without, admit_read, admit_may}
use Rattle.eit_pids.proofs.Heads.{heads_fit, either_without}
use Rattle.eit_admit.proofs.admit.Goals as goal

pub returns-then-counters_full : goal.returns-then-counters_full
returns-then-counters_full c = record { value = search admit_full; admitted = tt }

pub any_without_pid-requires : goal.any_without_pid-requires
any_without_pid-requires c = let a = c.args in let s = c.look-seen in (heads_fit a.eit a.heads.now a.slots.now a.cells.now a.schedule_heads.now a.units.now s.result.whole s.ensures.whole_value c.if-seen.true).schedules

pub returns-then-seen-any_without_pid : goal.returns-then-seen-any_without_pid
returns-then-seen-any_without_pid c = let a = c.args in let s = c.look-seen in let f = c.counters_full in let n = c.any_without_pid in
    record { value = admit_without a.eit a.heads.now a.slots.now a.cells.now a.schedule_heads.now a.units.now a.input a.pid a.bytes.now s.result.whole s.ensures.whole_value c.if-seen.true f.result f.ensures c.if-counters_full.false _ (either_without a.eit a.heads.now a.schedule_heads.now s.result.without n.result (s.ensures.without_value c.if-seen.true) n.ensures) c.if-seen-any_without_pid.true; admitted = tt }

pub returns-then-seen : goal.returns-then-seen
returns-then-seen c = let a = c.args in let s = c.look-seen in let f = c.counters_full in let n = c.any_without_pid in
    record { value = admit_read a.eit a.heads.now a.slots.now a.cells.now a.schedule_heads.now a.units.now a.input a.pid a.bytes.now s.result.whole s.ensures.whole_value c.if-seen.true f.result f.ensures c.if-counters_full.false _ (either_without a.eit a.heads.now a.schedule_heads.now s.result.without n.result (s.ensures.without_value c.if-seen.true) n.ensures) c.eit_arrival.result c.if-seen-any_without_pid.false c.eit_arrival.ensures.value; admitted = admit_may a.eit a.heads.now a.slots.now a.cells.now a.schedule_heads.now a.units.now a.input a.pid a.bytes.now s.result.whole s.ensures.whole_value c.if-seen.true f.result f.ensures c.eit_arrival.result c.if-counters_full.false (let z = c.well_formed.0 in search z) (let z = c.well_formed.0 in search z) c.eit_arrival.ensures.eit_taken }

pub returns : goal.returns
returns c = record { value = search admit_broken; admitted = tt }

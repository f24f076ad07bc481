use Rattle.sets_push.proofs.Ways.{admit_broken, admit_full, admit_without, admit_section, admitted_may}
use Rattle.store.specs.Store.{store}
use Rattle.sets_push.proofs.admit.Goals as goal

pub returns-then-counters_full : goal.returns-then-counters_full
returns-then-counters_full c = record { value = search admit_full; admitted_ok = tt }

pub returns-then-seen-2 : goal.returns-then-seen-2
returns-then-seen-2 c = let a = c.args in let s = c.look-seen in let f = c.counters_full in record { value = admit_without (store a.sets a.heads.now a.slots.now a.cells.now) a.input a.pid a.bytes.now s.result.whole s.ensures.whole_value f.result f.ensures c.if-seen.true s.result.without c.if-counters_full.false (s.ensures.without_value c.if-seen.true) c.if-seen-2.true; admitted_ok = tt }

pub returns-then-seen : goal.returns-then-seen
returns-then-seen c = let a = c.args in let s = c.look-seen in let f = c.counters_full in record { value = admit_section (store a.sets a.heads.now a.slots.now a.cells.now) a.input a.pid a.bytes.now s.result.whole s.ensures.whole_value f.result f.ensures c.if-seen.true s.result.without c.set_arrival.result c.if-counters_full.false (s.ensures.without_value c.if-seen.true) c.if-seen-2.false c.set_arrival.ensures.value; admitted_ok = admitted_may (store a.sets a.heads.now a.slots.now a.cells.now) a.bytes.now s.result.whole f.result c.set_arrival.result s.ensures.whole_value c.if-seen.true f.ensures c.if-counters_full.false c.set_arrival.ensures.set_taken }

pub returns : goal.returns
returns c = record { value = search admit_broken; admitted_ok = tt }

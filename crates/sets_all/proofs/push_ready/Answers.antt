use native.Mathlib.Omega.{arith}
use Rattle.sets_settle.specs.Settle.{after_push}
use Rattle.sets_all.proofs.Ways.{ready_stays, ready_full, ready_refused, ready_arrived, ready_may}
use Rattle.sets_all.proofs.push_ready.Goals as goal

pub returns-then-counters_full : goal.returns-then-counters_full
returns-then-counters_full c = record { cells_after = search ready_full; pushable = c.requires }

pub push_whole-requires : goal.push_whole-requires
push_whole-requires c = let a = c.args in ready_may a.sets a.heads.now a.slots.now a.cells.now c.requires a.input a.pid a.bytes.now c.counters_full.result c.counters_full.ensures c.set_arrival.result c.if-counters_full.false c.set_arrival.ensures.set_taken c.in-Ok.entry c.in-Ok.is

pub returns-in-Err : goal.returns-in-Err
returns-in-Err c = record { cells_after = search ready_refused; pushable = c.requires }

pub returns-in-Ok : goal.returns-in-Ok
returns-in-Ok c = let a = c.args in let k = c.push_whole in let l = after_push k.result k.new.heads k.new.slots k.new.cells in let e = ready_arrived a.sets a.heads.now a.slots.now a.cells.now c.requires a.input a.pid a.bytes.now c.counters_full.result c.counters_full.ensures c.set_arrival.result c.if-counters_full.false c.set_arrival.ensures.value c.in-Ok.entry c.in-Ok.is l k.ensures in record { cells_after = e; pushable = ready_stays a.sets a.heads.now a.slots.now a.cells.now c.requires a.input a.pid a.bytes.now (omega (arith, c.shared_slice_known-1.given 7)) l e }

use native.Mathlib.Omega.{arith}
use Rattle.eit_state.proofs.Whole.{can_count}
use Rattle.eit.specs.Store.{pushed}
use Rattle.eit_ready.proofs.Ways.{ready_stays, ready_full, ready_refused, ready_arrived, arrived_numbered}
use Rattle.eit_ready.proofs.push_ready.Goals as goal

pub returns-then-counters_full : goal.returns-then-counters_full
returns-then-counters_full c = let a = c.args in record { units_after = ready_full a.eit a.heads.now a.slots.now a.cells.now a.schedule_heads.now a.units.now c.requires a.input a.pid a.bytes.now c.counters_full.result c.counters_full.ensures c.if-counters_full.true; pushable = c.requires }

pub push_whole-requires : goal.push_whole-requires
push_whole-requires c = let a = c.args in record { whole = c.requires.whole.fits; numbered = arrived_numbered a.bytes.now c.eit_arrival.result c.eit_arrival.ensures.eit_taken c.in-Ok.a c.in-Ok.is; can_count = search (can_count, c.well_formed, c.ranges) }

pub returns-in-Err : goal.returns-in-Err
returns-in-Err c = let a = c.args in record { units_after = ready_refused a.eit a.heads.now a.slots.now a.cells.now a.schedule_heads.now a.units.now c.requires a.input a.pid a.bytes.now c.counters_full.result c.counters_full.ensures c.if-counters_full.false c.eit_arrival.result c.eit_arrival.ensures.value c.in-Err.refusal c.in-Err.is; pushable = c.requires }

pub returns-in-Ok : goal.returns-in-Ok
returns-in-Ok c = let a = c.args in let k = c.push_whole in let l = pushed k.result k.new.heads k.new.slots k.new.cells k.new.schedule_heads k.new.units in let e = ready_arrived a.eit a.heads.now a.slots.now a.cells.now a.schedule_heads.now a.units.now c.requires a.input a.pid a.bytes.now c.counters_full.result c.counters_full.ensures c.if-counters_full.false c.eit_arrival.result c.eit_arrival.ensures.value c.in-Ok.a c.in-Ok.is k.result k.new.heads k.new.slots k.new.cells k.new.schedule_heads k.new.units k.ensures in record { units_after = e; pushable = ready_stays a.eit a.heads.now a.slots.now a.cells.now a.schedule_heads.now a.units.now c.requires a.input a.pid a.bytes.now (omega (arith, c.shared_slice_known-1.given 7)) l e }

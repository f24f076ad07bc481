use Prim.Native.Nat.{◌/◌}
use lib.ListN.{length}
use Rattle.pats.specs.Store.{record_of}
use Rattle.gate_pats.specs.Store.{kept_of}
use Rattle.demux_store.specs.Store.{store_of}
use Rattle.demux_pass.proofs.Ready.{can_pass}
use Rattle.demux_pass.proofs.Store.{pass_none, pass_some}
use Rattle.demux_pass.proofs.pass.Goals as goal

pub pass-requires : goal.pass-requires
pass-requires c = let a = c.args in
    let j = c.judge in
    can_pass a.gate a.counters (length a.keys.now) (length a.changes.now) (record_of a.words.now a.pat_slots.now a.pat_cells.now) (length a.buffers.now) a.input
    (length a.places.now) a.streams a.pids.now _ c.in-Ok.field-0 j.result j.ensures c.in-Ok.is

pub returns-in-Err : goal.returns-in-Err
returns-in-Err c = let a = c.args in
    let j = c.judge in
    pass_none (length a.packets.now / 188) (store_of (kept_of a.gate a.counters a.keys.now a.changes.now (record_of a.words.now a.pat_slots.now a.pat_cells.now)) a.streams a.pids.now a.buffers.now a.places.now) a.input _ a.packets.now j.result c.in-Err.field-0 j.ensures c.in-Err.is

pub returns-in-Ok : goal.returns-in-Ok
returns-in-Ok c = let a = c.args in
    let j = c.judge in
    let r = c.pass in
    pass_some (kept_of a.gate a.counters a.keys.now a.changes.now (record_of a.words.now a.pat_slots.now a.pat_cells.now)) a.streams a.pids.now a.buffers.now a.places.now a.input _ a.packets.now j.result c.in-Ok.field-0 r.result r.new.pids j.ensures c.in-Ok.is r.ensures

use Rattle.pats.specs.Store.{record_of}
use Rattle.gate_pats.specs.Store.{kept_of}
use Rattle.demux_store.specs.Store.{store_of, fed_by}
use Rattle.demux_store.proofs.Laws.{feed_refused, feed_goes, feed_takes}
use Rattle.demux.proofs.feed.Goals as goal

pub take-requires : goal.take-requires
take-requires c = let a = c.args in
    let j = c.judge in
    feed_takes (store_of (kept_of a.gate a.counters a.keys.now a.changes.now (record_of a.words.now a.pat_slots.now a.pat_cells.now)) a.streams a.pids.now a.buffers.now a.places.now) a.input a.packet.now j.result j.ensures (λ i. (c.shared_slice_known-1.given i).fits) c.in-Ok.plan c.in-Ok.is

pub returns-in-Err : goal.returns-in-Err
returns-in-Err c = let a = c.args in
    let j = c.judge in
    feed_refused (store_of (kept_of a.gate a.counters a.keys.now a.changes.now (record_of a.words.now a.pat_slots.now a.pat_cells.now)) a.streams a.pids.now a.buffers.now a.places.now) a.input a.packet.now j.result j.ensures c.in-Err.refusal c.in-Err.is

pub returns-in-Ok : goal.returns-in-Ok
returns-in-Ok c = let a = c.args in
    let j = c.judge in
    let r = c.take in
    let l = c.take.new.keys in
    feed_goes (store_of (kept_of a.gate a.counters a.keys.now a.changes.now (record_of a.words.now a.pat_slots.now a.pat_cells.now)) a.streams a.pids.now a.buffers.now a.places.now) a.input a.packet.now j.result j.ensures c.in-Ok.plan
    (fed_by r.result c.take.new.keys c.take.new.changes (record_of c.take.new.words c.take.new.pat_slots c.take.new.pat_cells) c.take.new.pids c.take.new.buffers c.take.new.places) c.in-Ok.is r.ensures

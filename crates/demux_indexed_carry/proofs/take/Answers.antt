use Rattle.ring_index.specs.Store.{index_of}
use Rattle.pats.specs.Store.{record_of}
use Rattle.gate_pats_indexed.specs.Store.{kept_by}
use Rattle.demux_indexed_turns.specs.Acts.{words_by, tells_by, acts_by}
use Rattle.demux_indexed_turns.specs.Offers.{SteadyBy}
use Rattle.demux_store.proofs.Carried.{plan_forgets, plan_reads, planned_malformed, planned_nothing, planned_unwatched, planned_none, planned_read}
use Rattle.demux_indexed_store.specs.Carried.{store_of, fed_by}
use Rattle.demux_indexed_carry.proofs.take.Goals as goal

pub forget-requires : goal.forget-requires
forget-requires c = let a = c.args in
    plan_forgets (SteadyBy 64) (store_of (kept_by a.gate a.counters a.keys.now a.changes.now (index_of a.buckets.now a.links.now) (record_of a.words.now a.pat_slots.now a.pat_cells.now)) a.streams a.pids.now a.buffers.now a.places.now) a.packet.now a.plan c.requires c.in-Unwatched.pid c.in-Unwatched.is

pub read-requires : goal.read-requires
read-requires c = let a = c.args in
    plan_reads (SteadyBy 64) (store_of (kept_by a.gate a.counters a.keys.now a.changes.now (index_of a.buckets.now a.links.now) (record_of a.words.now a.pat_slots.now a.pat_cells.now)) a.streams a.pids.now a.buffers.now a.places.now) a.packet.now a.plan c.requires c.in-Read.reading c.in-Read.is

pub returns-in-Malformed : goal.returns-in-Malformed
returns-in-Malformed c = let a = c.args in
    planned_malformed words_by tells_by acts_by (store_of (kept_by a.gate a.counters a.keys.now a.changes.now (index_of a.buckets.now a.links.now) (record_of a.words.now a.pat_slots.now a.pat_cells.now)) a.streams a.pids.now a.buffers.now a.places.now) a.input a.packet.now a.plan c.count_malformed.result c.in-Malformed.is c.count_malformed.ensures

pub returns-in-Nothing : goal.returns-in-Nothing
returns-in-Nothing c = let a = c.args in
    planned_nothing words_by tells_by acts_by (store_of (kept_by a.gate a.counters a.keys.now a.changes.now (index_of a.buckets.now a.links.now) (record_of a.words.now a.pat_slots.now a.pat_cells.now)) a.streams a.pids.now a.buffers.now a.places.now) a.input a.packet.now a.plan c.count.result c.in-Nothing.is c.count.ensures

pub returns-in-Unwatched : goal.returns-in-Unwatched
returns-in-Unwatched c = let a = c.args in
    let f = c.forget in
    planned_unwatched words_by tells_by acts_by (store_of (kept_by a.gate a.counters a.keys.now a.changes.now (index_of a.buckets.now a.links.now) (record_of a.words.now a.pat_slots.now a.pat_cells.now)) a.streams a.pids.now a.buffers.now a.places.now) a.input a.packet.now a.plan c.count-in-Unwatched.result c.in-Unwatched.pid f.new.pids c.in-Unwatched.is f.ensures c.count-in-Unwatched.ensures

pub returns-in-NoBuffer : goal.returns-in-NoBuffer
returns-in-NoBuffer c = let a = c.args in
    planned_none words_by tells_by acts_by (store_of (kept_by a.gate a.counters a.keys.now a.changes.now (index_of a.buckets.now a.links.now) (record_of a.words.now a.pat_slots.now a.pat_cells.now)) a.streams a.pids.now a.buffers.now a.places.now) a.input a.packet.now a.plan c.count-in-NoBuffer.result c.in-NoBuffer.is c.count-in-NoBuffer.ensures

pub returns-in-Read : goal.returns-in-Read
returns-in-Read c = let a = c.args in
    let r = c.read in
    let l = c.read.new.keys in
    planned_read words_by tells_by acts_by (store_of (kept_by a.gate a.counters a.keys.now a.changes.now (index_of a.buckets.now a.links.now) (record_of a.words.now a.pat_slots.now a.pat_cells.now)) a.streams a.pids.now a.buffers.now a.places.now) a.input a.packet.now a.plan c.in-Read.reading
    (fed_by r.result c.read.new.keys c.read.new.changes (index_of c.read.new.buckets c.read.new.links) (record_of c.read.new.words c.read.new.pat_slots c.read.new.pat_cells) c.read.new.pids c.read.new.buffers c.read.new.places) c.in-Read.is r.ensures

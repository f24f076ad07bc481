use mathlib.Core.Path.{◌∙◌}
use Rattle.ring_index.specs.Store.{index_of}
use Rattle.pats.specs.Store.{record_of}
use Rattle.gate_pats_indexed.specs.Store.{kept_by}
use Rattle.demux_indexed_turns.specs.Acts.{words_by, tells_by, acts_by}
use Rattle.demux_indexed_turns.specs.Offers.{held_by, SteadyBy}
use Rattle.demux_indexed_turns.proofs.Steady.{fewer}
use Rattle.demux_store.proofs.Carried.{turns_ok, payload_read}
use Rattle.demux_indexed_store.specs.Carried.{store_of}
use Rattle.demux_indexed_read.proofs.read.Goals as goal

pub offers-held-requires : goal.offers-held-requires
offers-held-requires c = let a = c.args in
    let r = c.read-count in
    turns_ok SteadyBy fewer (store_of (kept_by a.gate a.counters a.keys.now a.changes.now (index_of a.buckets.now a.links.now) (record_of a.words.now a.pat_slots.now a.pat_cells.now)) a.streams a.pids.now a.buffers.now a.places.now) a.packet.now a.reading c.requires r.result r.new.pids r.new.places r.ensures.value r.auto.pids r.auto.places

pub count-requires : goal.count-requires
count-requires c = c.requires.counts

pub shape_of-pids : goal.shape_of-pids
shape_of-pids c = c.offers-held.auto.pids ∙ c.read-count.auto.pids

pub shape_of-buffers : goal.shape_of-buffers
shape_of-buffers c = c.read-count.auto.buffers

pub shape_of-places : goal.shape_of-places
shape_of-places c = c.offers-held.auto.places ∙ c.read-count.auto.places

pub returns : goal.returns
returns c = let a = c.args in
    let r = c.read-count in
    let o = c.offers-held in
    let l = c.offers-held.new.keys in
    payload_read words_by tells_by acts_by (store_of (kept_by a.gate a.counters a.keys.now a.changes.now (index_of a.buckets.now a.links.now) (record_of a.words.now a.pat_slots.now a.pat_cells.now)) a.streams a.pids.now a.buffers.now a.places.now) a.input a.packet.now a.reading r.result r.new.pids r.new.buffers r.new.places (held_by o.result c.offers-held.new.keys c.offers-held.new.changes (index_of c.offers-held.new.buckets c.offers-held.new.links) (record_of c.offers-held.new.words c.offers-held.new.pat_slots c.offers-held.new.pat_cells) c.offers-held.new.pids c.offers-held.new.places)
    c.count.result r.ensures.value r.ensures.pids_after r.ensures.buffers_after r.ensures.places_after o.ensures c.count.ensures

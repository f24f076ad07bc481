use mathlib.Core.Path.{◌∙◌}
use Rattle.pats.specs.Store.{record_of}
use Rattle.gate_pats.specs.Store.{kept_of}
use Rattle.demux_store.specs.Store.{store_of}
use Rattle.demux_steady.specs.Steady.{words_in, tells, acts, Steady}
use Rattle.demux_steady.proofs.Steady.{fewer}
use Rattle.demux_turns.specs.Offers.{held_of}
use Rattle.demux_store.proofs.Carried.{turns_ok, payload_read}
use Rattle.demux_read.proofs.read.Goals as goal

pub offers-held-requires : goal.offers-held-requires
offers-held-requires c = let a = c.args in
    let r = c.read-count in
    turns_ok Steady fewer (store_of (kept_of a.gate a.counters a.keys.now a.changes.now (record_of a.words.now a.pat_slots.now a.pat_cells.now)) a.streams a.pids.now a.buffers.now a.places.now) a.packet.now a.reading c.requires r.result r.new.pids r.new.places r.ensures.value r.auto.pids r.auto.places

pub count-requires : goal.count-requires
count-requires c = c.requires.counts

pub shape_of-pids : goal.shape_of-pids
shape_of-pids c = c.offers-held.auto.pids ∙ c.read-count.auto.pids

pub shape_of-buffers : goal.shape_of-buffers
shape_of-buffers c = c.read-count.auto.buffers

pub shape_of-places : goal.shape_of-places
shape_of-places c = c.offers-held.auto.places ∙ c.read-count.auto.places

pub returns : goal.returns
returns c = let a = c.args in
    let r = c.read-count in
    let o = c.offers-held in
    let l = c.offers-held.new.keys in
    payload_read words_in tells acts (store_of (kept_of a.gate a.counters a.keys.now a.changes.now (record_of a.words.now a.pat_slots.now a.pat_cells.now)) a.streams a.pids.now a.buffers.now a.places.now) a.input a.packet.now a.reading r.result r.new.pids r.new.buffers r.new.places (held_of o.result c.offers-held.new.keys c.offers-held.new.changes (record_of c.offers-held.new.words c.offers-held.new.pat_slots c.offers-held.new.pat_cells) c.offers-held.new.pids c.offers-held.new.places)
    c.count.result r.ensures.value r.ensures.pids_after r.ensures.buffers_after r.ensures.places_after o.ensures c.count.ensures

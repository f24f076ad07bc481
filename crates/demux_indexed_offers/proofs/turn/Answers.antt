use native.Mathlib.Omega.{arith}
use Rattle.ring_index.specs.Store.{index_of}
use Rattle.demux_indexed_turns.proofs.Laws.{turn_done}
use Rattle.demux_indexed_offers.proofs.turn.Goals as goal

pub tell-requires : goal.tell-requires
tell-requires c = omega (arith, c.requires.listed)

pub returns : goal.returns
returns c = let a = c.args in
    let o = c.offer-offered in
    let l = c.offer-offered.new.keys in
    let p = c.place_at-place in
    let s = c.section_at in
    let t = c.tell in
    turn_done a.held a.keys.now a.changes.now (index_of a.buckets.now a.links.now) a.words.now a.pat_slots.now a.pat_cells.now a.pids.now a.places.now
    a.packet.now a.buffers.now a.input a.pid a.k p.result s.result.now o.result
    c.offer-offered.new.keys c.offer-offered.new.changes (index_of c.offer-offered.new.buckets c.offer-offered.new.links) c.offer-offered.new.words c.offer-offered.new.pat_slots c.offer-offered.new.pat_cells c.offer-offered.new.pids t.new.places p.ensures s.ensures o.ensures.pat_cells_after o.ensures.pids_after t.ensures

use native.Mathlib.Omega.{arith}
use Rattle.demux_turns.proofs.Laws.{turn_done}
use Rattle.demux_offers.proofs.turn.Goals as goal

pub tell-requires : goal.tell-requires
tell-requires c = omega (arith, c.requires.listed)

pub returns : goal.returns
returns c = let a = c.args in
    let o = c.offer-offered in
    let l = c.offer-offered.new.keys in
    turn_done a.held a.keys.now a.changes.now a.words.now a.pat_slots.now a.pat_cells.now a.pids.now a.places.now a.packet.now a.buffers.now a.input a.pid a.k
    c.place_at-place.result c.section_at.result.now o.result c.offer-offered.new.keys c.offer-offered.new.changes c.offer-offered.new.words c.offer-offered.new.pat_slots c.offer-offered.new.pat_cells c.offer-offered.new.pids c.tell.new.places
    c.place_at-place.ensures c.section_at.ensures o.ensures.pat_cells_after o.ensures.pids_after c.tell.ensures

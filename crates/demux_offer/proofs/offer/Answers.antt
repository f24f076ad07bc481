use Rattle.demux_turns.proofs.Laws.{no_pat_back}
use Rattle.demux_offer.proofs.offer.Goals as goal

pub returns : goal.returns
returns c = let a = c.args in
    let t = c.take in
    let l = c.take.new.keys in record {
      pat_cells_after = t.ensures;
      pids_after = no_pat_back a.gate a.counters a.keys.now a.changes.now a.words.now a.pat_slots.now a.pat_cells.now a.input a.pid a.section.now c.is_readable.result t.result
          c.take.new.keys c.take.new.changes c.take.new.words c.take.new.pat_slots c.take.new.pat_cells a.pids.now c.is_readable.ensures c.if-is_readable.false c.requires.words t.ensures;
    }

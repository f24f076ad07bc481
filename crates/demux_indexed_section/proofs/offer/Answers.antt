use Rattle.ring_index.specs.Store.{index_of}
use Rattle.demux_indexed_turns.proofs.Section.{no_pat_back}
use Rattle.demux_indexed_section.proofs.offer.Goals as goal

pub returns : goal.returns
returns c = let a = c.args in
    let t = c.take in
    let l = c.take.new.keys in
    let q = c.is_readable in record {
      pat_cells_after = t.ensures;
      pids_after = no_pat_back a.gate a.counters a.keys.now a.changes.now (index_of a.buckets.now a.links.now) a.words.now a.pat_slots.now a.pat_cells.now a.input a.pid a.section.now q.result t.result
          c.take.new.keys c.take.new.changes (index_of c.take.new.buckets c.take.new.links) c.take.new.words c.take.new.pat_slots c.take.new.pat_cells a.pids.now q.ensures c.if-is_readable.false c.requires.words t.ensures;
    }

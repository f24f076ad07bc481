use Rattle.ring_index.specs.Store.{index_of}
use Rattle.gate_pats_indexed.proofs.Laws.{ready_after, taken_told}
use Rattle.gate_pats_indexed.proofs.inner.take.Goals as goal

pub enter-requires : goal.enter-requires
enter-requires c = let a = c.args in
    let o = c.offer-offered in
    ready_after a.gate a.counters a.keys.now a.changes.now (index_of a.buckets.now a.links.now) a.words.now a.pat_slots.now a.pat_cells.now a.input a.pid a.section.now
    o.result o.new.keys o.new.changes (index_of o.new.buckets o.new.links) o.new.words c.requires o.ensures

pub returns : goal.returns
returns c = search taken_told

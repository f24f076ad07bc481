use Rattle.ring_index.specs.Store.{index_of}
use Rattle.gate_pats_indexed.proofs.Laws.{offered_broken, offered_full, offered_ready}
use Rattle.gate_pats.proofs.Laws.{ready_record}
use Rattle.gate_pats_indexed.proofs.offer.Goals as goal

pub take-requires : goal.take-requires
take-requires c = search ready_record

pub returns-in-NotWhole : goal.returns-in-NotWhole
returns-in-NotWhole c = search offered_broken

pub returns-in-Full : goal.returns-in-Full
returns-in-Full c = let a = c.args in
    let x = c.state_of in
    offered_full a.gate a.counters a.keys.now a.changes.now (index_of a.buckets.now a.links.now) a.words.now a.pat_slots.now a.pat_cells.now a.input a.pid a.section.now x.result x.ensures.value
    c.is_whole-whole.result c.full.result c.refuse-in-Full.result c.in-Full.is c.is_whole-whole.ensures c.full.ensures c.refuse-in-Full.ensures

pub returns-in-Ready : goal.returns-in-Ready
returns-in-Ready c = search offered_ready

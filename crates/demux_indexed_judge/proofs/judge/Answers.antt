use Rattle.pats.specs.Store.{record_of}
use Rattle.demux_indexed_judge.proofs.Laws.{judge_whole, judge_not}
use Rattle.demux_indexed_judge.proofs.judge.Goals as goal

pub returns-then-is_whole : goal.returns-then-is_whole
returns-then-is_whole c = let a = c.args in
    let w = c.is_whole in
    let j = c.judge in
    judge_whole a.gate a.counters a.streams a.keys a.changes a.buckets a.links (record_of a.words.now a.pat_slots.now a.pat_cells.now) a.pids.now a.buffers a.input a.packet.now a.places w.result w.ensures j.result c.if-is_whole.true j.ensures

pub returns : goal.returns
returns c = let a = c.args in
    let w = c.is_whole in
    judge_not a.gate a.counters a.streams a.keys a.changes a.buckets a.links (record_of a.words.now a.pat_slots.now a.pat_cells.now) a.pids.now a.buffers a.input a.packet.now a.places w.result w.ensures c.if-is_whole.false

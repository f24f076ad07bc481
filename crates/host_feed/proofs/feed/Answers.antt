use Rattle.pats.specs.Store.{record_of}
use Rattle.host_feed.proofs.Calls.{packet_fed_lem}
use Rattle.host_feed.proofs.feed.Goals as goal

pub returns : goal.returns
returns c = let a = c.args in
    let f = c.feed-fed in
    let l = c.feed-fed.new.keys in
    let w = c.write_fed in
    let h = c.read-held in
    let s = c.streams-known in
    let q = c.number-from in
    packet_fed_lem a.gate.now a.streams.now a.keys.now a.changes.now (record_of a.watch.now a.pat_slots.now a.pat_cells.now) a.pids.now a.buffers.now a.input a.packet.now a.places.now a.finished.now
    h.result s.result q.result f.result c.feed-fed.new.keys c.feed-fed.new.changes (record_of c.feed-fed.new.words c.feed-fed.new.pat_slots c.feed-fed.new.pat_cells) c.feed-fed.new.pids c.feed-fed.new.buffers c.feed-fed.new.places w.new.gate w.new.streams w.new.finished w.result h.ensures s.ensures q.ensures f.ensures w.ensures

use Rattle.demux_packets.proofs.Laws.{read_left}
use Rattle.demux_packets.proofs.read.Goals as goal

pub returns : goal.returns
returns c = let r = let a = c.args in
    let r = c.args.reading in
    let t = c.take-stepped in
    read_left a.pids.now a.buffers.now a.places.now r.number r.fresh r.load a.packet.now c.words-words.result t.result c.put.new.pids t.new.buffer t.new.places
    c.words-words.ensures t.ensures.value t.ensures.buffer_after t.ensures.places_after c.put.ensures t.auto.buffer c.requires.bytes in record { value = r.0; pids_after = r.1.0; buffers_after = r.1.1.0; places_after = r.1.1.1 }

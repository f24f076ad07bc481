use Rattle.pats.specs.Store.{record_of}
use Rattle.demux_judge.proofs.Laws.{not_whole_lem, has_count, near_its_end, bad_input_lem, it_goes, lends}
use mathlib.Core.Path.{ap}
use mathlib.Core.Bool.{not}
use Rattle.demux_judge.proofs.judge.Goals as goal

pub returns-then-not-is_whole : goal.returns-then-not-is_whole
returns-then-not-is_whole c = search not_whole_lem

pub pat_count-requires : goal.pat_count-requires
pat_count-requires c = let a = c.args in has_count a.gate a.counters a.streams a.keys a.changes (record_of a.words.now a.pat_slots.now a.pat_cells.now) a.pids.now a.buffers a.input a.packet.now a.places c.is_whole.result c.is_whole.ensures (ap not c.if-not-is_whole.false)

pub returns-then-near_end : goal.returns-then-near_end
returns-then-near_end c = search near_its_end

pub judge-requires : goal.judge-requires
judge-requires c = let a = c.args in lends a.gate a.counters a.streams a.keys a.changes (record_of a.words.now a.pat_slots.now a.pat_cells.now) a.pids.now a.buffers a.input a.packet.now a.places c.is_whole.result c.is_whole.ensures (ap not c.if-not-is_whole.false)

pub returns-then-input-lt-INPUTS : goal.returns-then-input-lt-INPUTS
returns-then-input-lt-INPUTS c = search it_goes

pub returns : goal.returns
returns c = search bad_input_lem

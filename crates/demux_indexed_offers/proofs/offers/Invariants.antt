use mathlib.Core.Path.{◌≡◌, refl, ◌∙◌}
use Prim.Native.Nat.{◌≤◌, ◌-◌}
use Rattle.ring_index.specs.Store.{index_of}
use Rattle.pats.specs.Store.{record_of}
use Rattle.gate_pats_indexed.specs.Store.{kept_by}
use Rattle.demux_indexed_turns.specs.Offers.{held_by, offers_from, SteadyBy}
use Rattle.demux_indexed_turns.proofs.Laws.{Lengths, turn_may}
use Rattle.demux_indexed_offers.proofs.offers.Given as goal

abbrev pub invariant-loop-k : goal.invariant-loop-k
invariant-loop-k l = (l.k ≤ l.count) × Lengths l.initial.keys l.initial.changes l.initial.buckets l.initial.links l.initial.words l.initial.pat_slots l.initial.pat_cells l.initial.pids l.initial.places l.keys l.changes l.buckets l.links l.words l.pat_slots l.pat_cells l.pids l.places
    × SteadyBy (l.count - l.k) (kept_by l.now.gate l.now.counters l.keys l.changes (index_of l.buckets l.links) (record_of l.words l.pat_slots l.pat_cells))
    × (offers_from l.packet l.buffers l.input l.pid (l.count - l.k) l.k (held_by l.now l.keys l.changes (index_of l.buckets l.links) (record_of l.words l.pat_slots l.pat_cells) l.pids l.places)
    ≡ offers_from l.packet l.buffers l.input l.pid l.count 0 (held_by l.initial.now l.initial.keys l.initial.changes (index_of l.initial.buckets l.initial.links) (record_of l.initial.words l.initial.pat_slots l.initial.pat_cells) l.initial.pids l.initial.places))

use Rattle.demux_turns.proofs.Laws.{Lengths, turn_may}
use mathlib.Core.Path.{◌≡◌, refl, ◌∙◌}
use Prim.Native.Nat.{◌≤◌, ◌-◌, ◌+◌, ◌*◌}
use Rattle.pats.specs.Store.{record_of}
use Rattle.gate_pats.specs.Store.{kept_of}
use Rattle.demux_steady.specs.Steady.{words_in, tells, acts, Steady}
use Rattle.demux_turns.specs.Offers.{held_of, offers_from}
use Rattle.demux_offers.proofs.offers.Given as goal

abbrev pub invariant-loop-k : goal.invariant-loop-k
invariant-loop-k l = (l.k ≤ l.count) × Lengths l.initial.keys l.initial.changes l.initial.words l.initial.pat_slots l.initial.pat_cells l.initial.pids l.initial.places l.keys l.changes l.words l.pat_slots l.pat_cells l.pids l.places
    × Steady (l.count - l.k) (kept_of l.now.gate l.now.counters l.keys l.changes (record_of l.words l.pat_slots l.pat_cells))
    × (offers_from l.packet l.buffers l.input l.pid (l.count - l.k) l.k (held_of l.now l.keys l.changes (record_of l.words l.pat_slots l.pat_cells) l.pids l.places)
    ≡ offers_from l.packet l.buffers l.input l.pid l.count 0 (held_of l.initial.now l.initial.keys l.initial.changes (record_of l.initial.words l.initial.pat_slots l.initial.pat_cells) l.initial.pids l.initial.places))

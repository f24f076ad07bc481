use mathlib.Core.Path.{◌≡◌, refl, ◌∙◌}
use Prim.Native.Nat.{◌-◌, ◌≤◌}
use lib.ListN.{length}
use Rattle.store.specs.Store as sets_memory
use Rattle.eit_state.specs.State as eit_memory
use Rattle.counts_collect.specs.Collected.{held as both}
use Rattle.counts_places.specs.Collected.{collected_from}
use Rattle.counts_places.proofs.collect_all.Given as goal

abbrev pub invariant-loop-k : goal.invariant-loop-k
invariant-loop-k l = (l.k ≤ l.count) × (length l.heads ≡ length l.initial.heads) × (length l.slots ≡ length l.initial.slots) × (length l.cells ≡ length l.initial.cells) × (length l.eit_heads ≡ length l.initial.eit_heads) × (length l.eit_slots ≡ length l.initial.eit_slots) × (length l.eit_cells ≡ length l.initial.eit_cells) × (length l.schedule_heads ≡ length l.initial.schedule_heads) × (length l.units ≡ length l.initial.units)
    × (collected_from l.places l.packet l.buffers l.pid (l.count - l.k) l.k (both (sets_memory.store l.held.sets l.heads l.slots l.cells) (eit_memory.store l.held.eit l.eit_heads l.eit_slots l.eit_cells l.schedule_heads l.units) l.tally) ≡ collected_from l.places l.packet l.buffers l.pid l.count 0 (both (sets_memory.store l.initial.held.sets l.initial.heads l.initial.slots l.initial.cells) (eit_memory.store l.initial.held.eit l.initial.eit_heads l.initial.eit_slots l.initial.eit_cells l.initial.schedule_heads l.initial.units) l.initial.tally))

use mathlib.Core.Path.{◌≡◌}
use Prim.Native.Nat.{◌*◌, ◌≤◌}
use lib.ListN.{length, drop}
use Rattle.network_entries.specs.Entries.{listed_from}
use Rattle.network_sets.specs.Sets.{slots_entries}
use Rattle.network_sets.proofs.list_slots.Given as goal

abbrev pub invariant-loop-j : goal.invariant-loop-j
invariant-loop-j l = (l.j ≤ length l.slots) × (l.k ≤ l.j * 65536) × (length l.list ≡ length l.initial.list) × (listed_from l.skip l.k (slots_entries l.table l.cells l.size (drop l.j l.slots) l.j) l.list ≡ listed_from l.skip 0 (slots_entries l.table l.cells l.size l.slots 0) l.initial.list)

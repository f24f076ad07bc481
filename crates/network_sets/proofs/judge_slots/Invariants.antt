use mathlib.Core.Path.{◌≡◌}
use Prim.Native.Nat.{◌≤◌}
use lib.ListN.{length, drop}
use Rattle.network_sets.specs.Sets.{slots_fault}
use Rattle.network_sets.proofs.judge_slots.Given as goal

abbrev pub invariant-loop-j : goal.invariant-loop-j
invariant-loop-j l = (l.j ≤ length l.slots) × (slots_fault l.table l.cells l.size (drop l.j l.slots) l.j ≡ slots_fault l.table l.cells l.size l.slots 0)

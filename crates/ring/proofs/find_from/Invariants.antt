use Prim.Native.Nat.{◌+◌, ◌≤◌, ◌-◌}
use mathlib.Core.Path.{◌≡◌}
use lib.ListN.{take, drop}
use Rattle.ring.specs.Store.{row_of}
use Rattle.ring.proofs.find_from.Given as goal

abbrev pub invariant-loop-i : goal.invariant-loop-i
invariant-loop-i l = (l.i ≤ l.used) × (l.from + row_of (drop l.from (take l.used l.keys)) l.key ≡ l.i + row_of (drop l.i (take l.used l.keys)) l.key)

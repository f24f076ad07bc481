use mathlib.Core.Path.{◌≡◌}
use Prim.Native.Nat.{◌≤◌, ◌-◌}
use Rattle.laws.specs.Lists.{first_from}
use Rattle.alignment.specs.Alignment.{sync_at}
use Rattle.alignment.proofs.seek.Given as goal

abbrev pub invariant-loop-j : goal.invariant-loop-j
invariant-loop-j l = (l.j ≤ l.end) × (first_from (sync_at l.window) l.end 0 ≡ first_from (sync_at l.window) (l.end - l.j) l.j)

use mathlib.Core.Path.{◌≡◌}
use Prim.Native.Nat.{◌≤◌}
use Rattle.without_pid.specs.Pids.{without_pid}
use Rattle.without_pid.proofs.any_without_pid.Given as goal

abbrev pub invariant-loop-i : goal.invariant-loop-i
invariant-loop-i l = (l.i ≤ l.used) × (l.found ≡ without_pid l.heads l.i)

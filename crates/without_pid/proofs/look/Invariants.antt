use mathlib.Core.Path.{◌≡◌}
use mathlib.Core.Bool.{◌&&◌, ◌||◌}
use Prim.Native.Nat.{◌≤◌}
use Rattle.rows.specs.Rows.{rows_whole}
use Rattle.without_pid.specs.Pids.{without_pid}
use Rattle.without_pid.proofs.look.Given as goal

abbrev pub invariant-loop-i : goal.invariant-loop-i
invariant-loop-i l = (l.i ≤ l.used) × (rows_whole l.heads l.slots l.count l.size l.used ≡ (l.whole && rows_whole l.heads l.slots l.count l.size l.i)) × (without_pid l.heads l.used ≡ (without_pid l.heads l.i || l.without))

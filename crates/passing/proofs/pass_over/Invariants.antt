use mathlib.Core.Path.{◌≡◌, refl}
use Prim.Native.Nat.{◌≤◌, ◌-◌, ◌*◌}
use lib.ListN.{length, drop}
use Rattle.passing.specs.Passing.{more_by, passed_from}
use Rattle.passing.proofs.pass_over.Given as goal

abbrev pub invariant-loop-n : goal.invariant-loop-n
invariant-loop-n l = (l.n ≤ l.most) × (length l.pids ≡ length l.initial.pids) × (more_by l.n (passed_from (l.most - l.n) l.watched (drop (l.n * 188) l.packets) l.pids) ≡ passed_from l.most l.watched l.packets l.initial.pids)

use Rattle.log_list.specs.List.{judged_of}
use Rattle.rules_logs.specs.Sections.{sections_in}
use lib.ListN.{length, drop}
use Prim.Native.Nat.{◌≤◌, ◌-◌}
use mathlib.Core.Path.{◌≡◌}
use Rattle.log_list.proofs.judge.Given as goal

abbrev pub invariant-loop-p : goal.invariant-loop-p
invariant-loop-p l = (l.at ≤ length l.list) × (judged_of (sections_in l.list) ≡ judged_of (sections_in (drop l.at l.list)))

abbrev pub decreases-loop-p : goal.decreases-loop-p
decreases-loop-p l = length l.list - l.at

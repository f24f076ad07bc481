use Rattle.std.proofs.Common.{◌-◌, ◌≤◌}
use Rattle.guide_report.proofs.say_entries.Given as goal

abbrev pub invariant-loop-i : goal.invariant-loop-i
invariant-loop-i g l = (l.k ≤ l.i) × (l.i ≤ l.n)

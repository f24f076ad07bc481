use Rattle.std.proofs.Common.{◌-◌, ◌≤◌}
use Rattle.guide_report.proofs.say_tables.Given as goal

abbrev pub invariant-loop-t : goal.invariant-loop-t
invariant-loop-t g l = (l.k ≤ l.n) × (l.t ≤ 16)

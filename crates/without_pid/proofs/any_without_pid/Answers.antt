use mathlib.Core.Path.{sym}
use native.Mathlib.Omega.{arith}
use Rattle.without_pid.proofs.Rows.{none_yet, next_row, at_end_lem}
use Rattle.without_pid.proofs.any_without_pid.Goals as goal

pub loop-i-init : goal.loop-i-init
loop-i-init c = (omega arith, sym (none_yet _))

pub loop-i-smaller : goal.loop-i-smaller
loop-i-smaller c = omega arith

pub loop-i-preserved : goal.loop-i-preserved
loop-i-preserved c = let i = c.loop-i in (omega (arith, c.loop-i-test.true), next_row c.args.heads.now i.i i.found i.invariant.1)

pub returns : goal.returns
returns c = let i = c.loop-i in at_end_lem c.args.heads.now i.i c.args.used i.found i.invariant.1 i.invariant.0 c.loop-i-test.false

use mathlib.Core.Path.{◌≡◌, refl}
use Prim.Native.Nat.{◌+◌, ◌*◌, ◌-◌, ◌≤◌}
use native.Mathlib.Omega.{arith}
use borrow.Author.Rules.{rules}
use Rattle.counts_lines.proofs.Ways.{Left, left_first, left_turn, left_none}
use Rattle.counts_lines.proofs.put_numbers.Goals as goal

pub loop-k-init : goal.loop-k-init
loop-k-init c = (omega arith, refl, omega arith, left_first c.args.line.now c.args.at c.args.numbers.now)

pub loop-k-preserved : goal.loop-k-preserved
loop-k-preserved c = (omega arith, search rules, omega (arith, c.put_number-to.ensures.upper_bound, c.loop-k.invariant.2), left_turn c.args.line.now c.args.at c.args.numbers.now c.loop-k.line c.put_number-to.new.line c.loop-k.to c.put_number-to.result c.loop-k.k c.loop-k-test.true c.loop-k.invariant.3 c.put_number-to.ensures.wrote)

pub returns : goal.returns
returns c = record { wrote = left_none c.args.line.now c.args.at c.args.numbers.now c.loop-k.line c.loop-k.to c.loop-k.k (omega arith) c.loop-k.invariant.3; upper_bound = omega (arith, c.loop-k.invariant.0, c.loop-k.invariant.2) }

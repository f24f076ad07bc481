use native.Mathlib.Omega.{arith}
use Rattle.counts_lines.proofs.Ways.{rest}
use Rattle.counts_lines.proofs.put_line.Goals as goal

pub returns : goal.returns
returns c = record { wrote = rest _ _ _ c.args.numbers.now c.args.from _ _ c.put_numbers-at.ensures.wrote c.put.ensures; upper_bound = omega (arith, c.requires, c.put_numbers-at.ensures.upper_bound, c.put.ensures.next) }

use native.Mathlib.Omega.{arith}
use Rattle.examples_read.proofs.lines.number.Goals as goal
use Rattle.text.proofs.Laws.{length_u64}

pub put_dec-requires : goal.put_dec-requires
put_dec-requires c = omega (arith, length_u64 c.args.v c.ranges.v.fits, c.requires)

pub returns : goal.returns
returns c = omega (arith, length_u64 c.args.v c.ranges.v.fits, c.put_dec.ensures.next)

use native.Mathlib.Omega.{arith}
use Rattle.entry_lines.proofs.put_number.Goals as goal
use Rattle.text.proofs.Laws.{length_u64}

-- src/lib.rt:17:5
pub put_dec-requires : goal.put_dec-requires
put_dec-requires c = omega (arith, length_u64 c.args.v c.ranges.v.fits, c.requires)

-- src/lib.rt:13:1
pub returns : goal.returns
returns c = omega (arith, length_u64 c.args.v c.ranges.v.fits, c.put_dec.ensures.next)

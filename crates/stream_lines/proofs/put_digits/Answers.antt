-- A number of 64 bits has at most twenty digits. Assumes nothing.
use Rattle.std.proofs.Common.{arith}
use Rattle.text.proofs.Laws.{length_u64}
use Rattle.stream_lines.proofs.put_digits.Goals as goal

pub put_dec-requires : goal.put_dec-requires
put_dec-requires c = omega (arith, c.requires, length_u64 c.args.v c.ranges.v.fits)

pub returns : goal.returns
returns c = omega (arith, c.put_dec.ensures.next, length_u64 c.args.v c.ranges.v.fits)

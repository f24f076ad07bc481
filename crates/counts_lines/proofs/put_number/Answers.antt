use native.Mathlib.Omega.{arith}
use Rattle.text.proofs.Laws.{length_u64, wrote_then}
use Rattle.counts_lines.proofs.put_number.Goals as goal

pub put_dec-requires : goal.put_dec-requires
put_dec-requires c = omega (arith, c.requires, c.put-from.ensures.next, length_u64 c.args.n c.ranges.n.fits)

pub returns : goal.returns
returns c = record { wrote = wrote_then c.put-from.ensures c.put_dec.ensures; upper_bound = omega (arith, c.put-from.ensures.next, c.put_dec.ensures.next, length_u64 c.args.n c.ranges.n.fits) }

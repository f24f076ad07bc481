-- A byte has at most three digits. Assumes nothing.
use Rattle.std.proofs.Common.{arith}
use Rattle.text.proofs.Laws.{length_dec}
use Rattle.watch_lines.proofs.put_input.Goals as goal

pub put_dec-end-requires : goal.put_dec-end-requires
put_dec-end-requires c = omega (arith, c.requires, length_dec 2 c.args.input (omega (arith, c.ranges.input.fits)))

pub put-requires : goal.put-requires
put-requires c = omega (arith, c.requires, c.put_dec-end.ensures.next, c.put_dec-end.auto, length_dec 2 c.args.input (omega (arith, c.ranges.input.fits)))

pub returns : goal.returns
returns c = omega (arith, c.put.ensures.next, c.put_dec-end.ensures.next, length_dec 2 c.args.input (omega (arith, c.ranges.input.fits)))

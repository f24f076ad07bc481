-- A number of 64 bits has at most twenty digits. Assumes nothing.
use Rattle.std.proofs.Common.{arith}
use Rattle.text.proofs.Laws.{length_u64}
use Rattle.watch_lines.proofs.say_count.Goals as goal

pub put_dec-b-requires : goal.put_dec-b-requires
put_dec-b-requires g c = omega (arith, c.requires, c.put-a.ensures.next, c.put-a.auto, length_u64 c.args.count c.ranges.count.fits)

pub slice_bounds-write_all-end : goal.slice_bounds-write_all-end
slice_bounds-write_all-end g c = omega (arith, c.requires, c.put-a.ensures.next, c.put-a.auto, c.put_dec-b.ensures.next, c.put_dec-b.auto, length_u64 c.args.count c.ranges.count.fits)

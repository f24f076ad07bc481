-- The length of a section has at most four digits. Assumes nothing.
use Rattle.std.proofs.Common.{arith, length}
use Rattle.text.proofs.Laws.{length_dec}
use Rattle.watch_lines.proofs.say_section.Goals as goal

pub put_dec-f-requires : goal.put_dec-f-requires
put_dec-f-requires g c = omega (arith, c.requires, c.put-a, c.put_place-b, c.put-c, c.put_hex2-d, c.put-e, length_dec 3 (length c.args.section.now) (omega (arith, c.requires)))

pub put-g-requires : goal.put-g-requires
put-g-requires g c = omega (arith, c.requires, c.put-a, c.put_place-b, c.put-c, c.put_hex2-d, c.put-e, c.put_dec-f, length_dec 3 (length c.args.section.now) (omega (arith, c.requires)))

pub slice_bounds-write_all-end : goal.slice_bounds-write_all-end
slice_bounds-write_all-end g c = omega (arith, c.requires, c.put-a, c.put_place-b, c.put-c, c.put_hex2-d, c.put-e, c.put_dec-f, c.put-g, length_dec 3 (length c.args.section.now) (omega (arith, c.requires)))

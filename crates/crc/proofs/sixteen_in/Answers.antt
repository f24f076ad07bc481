-- `crc::sixteen_in` meets its contract. Assumes nothing.
use mathlib.Core.Path.{sym, ap₂, ◌∙◌}
use lib.Bits.{bit_xor}
use Rattle.crc.proofs.Steps.{sixteen_step}
use Rattle.crc.proofs.sixteen_in.Goals as goal

pub returns : goal.returns
returns c = let a = c.args in
    let f = c.ranges in
    ap₂ bit_xor
    (ap₂ bit_xor
    (ap₂ bit_xor c.after32.ensures c.after64.ensures)
    c.after96.ensures)
    c.after128.ensures
    ∙ sym (sixteen_step a.r a.a a.b a.c a.d f.r.fits f.a.fits f.b.fits f.c.fits f.d.fits)

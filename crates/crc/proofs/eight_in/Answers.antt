-- `crc::eight_in` meets its contract. Assumes nothing.
use mathlib.Core.Path.{sym, ap₂, ◌∙◌}
use lib.Bits.{bit_xor}
use Rattle.crc.proofs.Steps.{eight_step}
use Rattle.crc.proofs.eight_in.Goals as goal

pub returns : goal.returns
returns c = let a = c.args in
    let f = c.ranges in
    ap₂ bit_xor c.after32.ensures c.after64.ensures
    ∙ sym (eight_step a.r a.w a.v f.r.fits f.w.fits f.v.fits)

-- `crc_zeros::after32`: the low byte, and then a group of four bits after another. Assumes nothing.
use mathlib.Core.Path.{refl}
use native.Mathlib.Omega.{arith}
use Rattle.crc_zeros.specs.Zeros.{up, zeros}
use Rattle.crc_zeros.proofs.Groups.{whole}
use Rattle.crc_zeros.proofs.Nibbles.{row, more}
use Rattle.crc_zeros.proofs.after32.Goals as goal

pub returns : goal.returns
unfolding row zeros up
returns c = let x = c.args.x in
    whole 32 x c.ranges.x.fits
    (more 32 28 x (omega arith)
    (more 32 24 x (omega arith)
    (more 32 20 x (omega arith)
    (more 32 16 x (omega arith)
    (more 32 12 x (omega arith)
    (more 32 8 x (omega arith)
    c.byte_after32.ensures
    c.sum.ensures refl)
    c.sum-2.ensures refl)
    c.sum-3.ensures refl)
    c.sum-4.ensures refl)
    c.sum-5.ensures refl)
    c.sum-6.ensures refl)

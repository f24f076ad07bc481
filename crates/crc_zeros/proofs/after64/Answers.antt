-- `crc_zeros::after64`: a group of four bits after another. Assumes nothing.
use mathlib.Core.Path.{refl}
use native.Mathlib.Omega.{arith}
use Rattle.crc_zeros.specs.Zeros.{up, zeros}
use Rattle.crc_zeros.proofs.Groups.{whole}
use Rattle.crc_zeros.proofs.Nibbles.{row, lowest, more}
use Rattle.crc_zeros.proofs.after64.Goals as goal

pub returns : goal.returns
unfolding row zeros up
returns c = let x = c.args.x in
    whole 64 x c.ranges.x.fits
    (more 64 28 x (omega arith)
    (more 64 24 x (omega arith)
    (more 64 20 x (omega arith)
    (more 64 16 x (omega arith)
    (more 64 12 x (omega arith)
    (more 64 8 x (omega arith)
    (more 64 4 x (omega arith)
    (lowest 64 x c.sum.ensures refl)
    c.sum-2.ensures refl)
    c.sum-3.ensures refl)
    c.sum-4.ensures refl)
    c.sum-5.ensures refl)
    c.sum-6.ensures refl)
    c.sum-7.ensures refl)
    c.sum-8.ensures refl)

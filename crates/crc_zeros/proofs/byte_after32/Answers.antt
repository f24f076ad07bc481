-- `crc_zeros::byte_after32`, by its two groups of four bits. Assumes nothing.
use mathlib.Core.Path.{refl}
use native.Mathlib.Omega.{arith}
use Rattle.crc_zeros.specs.Zeros.{up, zeros}
use Rattle.crc_zeros.proofs.Nibbles.{row, lowest, more}
use Rattle.crc_zeros.proofs.byte_after32.Goals as goal

pub returns : goal.returns
unfolding row zeros up
returns c = let x = c.args.x in
    more 32 4 x (omega arith) (lowest 32 x c.sum.ensures refl) c.sum-2.ensures refl

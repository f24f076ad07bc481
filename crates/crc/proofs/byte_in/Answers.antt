-- `crc::byte_in` meets its contract. Assumes nothing.
use mathlib.Core.Path.{sym, ap, ◌∙◌}
use Prim.Native.Nat.{ℕ, ◌*◌, ◌/◌, ◌%◌, ◌^◌}
use lib.Bits.{bit_xor}
use Rattle.crc_zeros.specs.Zeros.{zeros}
use Rattle.crc.proofs.Steps.{byte_step}
use Rattle.crc.proofs.byte_in.Goals as goal

pub returns : goal.returns
returns c = let a = c.args in
    let f = c.ranges in
    ap (bit_xor (a.r * 2 ^ 8 % 2 ^ 32))
    (c.byte_after32.ensures ∙ ap (λ (v : ℕ). zeros 32 (bit_xor (a.r / 2 ^ 24) v % 2 ^ 8)) c.wide.ensures.0)
    ∙ sym (byte_step a.r a.v f.r.fits f.v.fits)

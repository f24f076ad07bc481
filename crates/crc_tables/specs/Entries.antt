-- The entries of the tables.
use Rattle.std.specs.Prelude.{ℕ, ◌*◌, ◌^◌}
use Rattle.std.specs.Int.Bits.{bit_xor}
use Rattle.crc_zeros.specs.Zeros.{zeros}

-- entry b: what a byte that stands in the register from bit k on makes by itself when n zeros go in. The byte is b with its highest bit
-- turned
abbrev pub entry : ℕ → ℕ → ℕ → ℕ
entry n k b = zeros n (bit_xor b 128 * 2 ^ k)

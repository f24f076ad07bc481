-- Zeros that go into the register of the CRC. Nothing here is to be believed: crate crc, whose specs/Crc.antt defines the CRC, proves
-- that bits go in as this file says.
use Rattle.std.specs.Prelude.{ℕ, zero, suc, ◌*◌, ◌/◌, ◌%◌, ◌^◌}
use Rattle.std.specs.Int.Bits.{bit_xor}

abbrev pub polynomial : ℕ
polynomial = 0x04C11DB7

-- a 0 goes into the register r: its 32 bits move up by one place, and where a 1 leaves at the top the polynomial is added to them
unfoldable pub up : ℕ → ℕ
up r = bit_xor (r * 2 % 2 ^ 32) (r / 2 ^ 31 * polynomial)

-- n of them
unfoldable pub zeros : ℕ → ℕ → ℕ
zeros zero r = r
zeros (suc n) r = up (zeros n r)

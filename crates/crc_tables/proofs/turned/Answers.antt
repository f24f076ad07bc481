-- `crc_tables::turned` meets its contract. Assumes nothing.
use Prim.Native.Nat.{◌%◌}
use native.Mathlib.Nat.{mod-lt}
use native.Mathlib.Omega.{arith}
use lib.Pow.{pow_pos}
use lib.Bits.{xor_lt}
use Rattle.crc_tables.proofs.turned.Goals as goal

pub overflow_cast-result : goal.overflow_cast-result
overflow_cast-result c = record { fits = xor_lt 8 (c.args.x % 256) 128 (mod-lt c.args.x (pow_pos 8)) (omega arith) }

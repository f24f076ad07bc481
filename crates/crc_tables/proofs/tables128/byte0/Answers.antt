-- `crc_tables::tables128::byte0`: antt works its entries out. Assumes nothing.
use mathlib.Core.Path.{◌≡◌, refl}
use native.Mathlib.Omega.{arith}
use Rattle.crc_zeros.specs.Zeros.{up, zeros}
use Rattle.crc_tables.proofs.Sums.{basis, sum_of, entries, entry_in}
use Rattle.crc_tables.proofs.tables128.byte0.Goals as goal

pub returns : goal.returns
unfolding basis sum_of zeros up entries
returns c = entry_in 128 0 (omega arith) _ refl c.args.b (omega arith)

-- `crc_tables::tables64::byte2`: antt works its entries out. Assumes nothing.
use mathlib.Core.Path.{◌≡◌, refl}
use native.Mathlib.Omega.{arith}
use Rattle.crc_zeros.specs.Zeros.{up, zeros}
use Rattle.crc_tables.proofs.Sums.{basis, sum_of, entries, entry_in}
use Rattle.crc_tables.proofs.tables64.byte2.Goals as goal

pub returns : goal.returns
unfolding basis sum_of zeros up entries
returns c = entry_in 64 16 (omega arith) _ refl c.args.b (omega arith)

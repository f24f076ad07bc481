-- `crc_tables::tables96::byte3`: antt works its entries out. Assumes nothing.
use mathlib.Core.Path.{◌≡◌, refl}
use native.Mathlib.Omega.{arith}
use Rattle.crc_zeros.specs.Zeros.{up, zeros}
use Rattle.crc_tables.proofs.Sums.{basis, sum_of, entries, entry_in}
use Rattle.crc_tables.proofs.tables96.byte3.Goals as goal

pub returns : goal.returns
unfolding basis sum_of zeros up entries
returns c = entry_in 96 24 (omega arith) _ refl c.args.b (omega arith)

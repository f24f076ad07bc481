-- The CRC of a list of bytes is one number. What the other calls leave is one answer and one content of each array and slice: host_gate,
-- host_indexed, host_sets, host_eit, host_showing, host_networks, host_guides, host_logs and host_log_records, proofs/Unique.antt.
-- Assumes nothing.
use Prim.Native.Nat.{ℕ}
use mathlib.Core.Path.{◌≡◌}
use mathlib.Core.List.{List}
use Rattle.laws.proofs.Unique.{one_result}
use Rattle.crc.specs.Crc.{crc_of}

pub unique_crc : (bytes : List ℕ) (r s : ℕ) → r ≡ crc_of bytes → s ≡ crc_of bytes → r ≡ s
unique_crc bytes r s = one_result (crc_of bytes)

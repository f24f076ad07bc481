-- A column of tags beside the rows of a collector: a number of 16 bits for each row in use, made of its key. For every content of the heads.
-- Assumes nothing.
use Rattle.std.specs.Prelude.{ℕ, ◌*◌, ◌%◌, ◌^◌, ◌<◌, ◌≡◌, List, get_or}
use Rattle.std.specs.Int.Bits.{bit_xor}
use Rattle.rows.specs.Rows.{key_at}
use Rattle.rows.specs.declared.Key.{Key}

-- equal keys have equal tags; of keys that differ most have different ones
abbrev pub tag_of : Key → ℕ
tag_of k =
    bit_xor (bit_xor (bit_xor k.extension (k.table_id * 2 ^ 8 % 2 ^ 64)) (k.from.pid * 2 ^ 3 % 2 ^ 64)) (k.transport_stream_id * 2 ^ 5 % 2 ^ 64) % 65536

-- the column has the tag of each row in use
pub record Tells (tags heads : List ℕ) (used : ℕ) : Type 0 where
  pub each : (i : ℕ) → i < used → get_or tags i 0 ≡ tag_of (key_at heads i)

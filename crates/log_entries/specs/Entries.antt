-- The records that one section gives, in 23 bytes (docs/RULES.md, "Logs"): at most one of 13 bytes and, behind it, one of 10.
-- Assumes nothing.
use Rattle.std.specs.Prelude.{ℕ, ◌+◌, ◌-◌, ◌++◌, Bool, cond, length, take, replicate}
use Rattle.rules_logs.specs.Records.{Bytes}
use Rattle.log_entries.specs.declared.Entry.{Entry}

-- records as bytes, and 0 behind them up to 23
unfoldable pub entry_with : Bytes → Entry
entry_with l = record { bytes = l ++ replicate (23 - length l) 0; length = length l }

-- a record of 13 bytes, and behind it one of at most 10
unfoldable pub joined_of : Bytes → Entry → Entry
joined_of a e = record { bytes = a ++ take 10 e.bytes; length = 13 + e.length }

-- short is kind 3, a mismatch kind 4
abbrev pub failed_kind : Bool → ℕ
failed_kind short = cond short 3 4

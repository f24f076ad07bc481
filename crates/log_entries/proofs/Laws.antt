-- One law for each way out.
-- Assumes nothing.
use Prim.Native.Nat.{ℕ, ◌+◌}
use mathlib.Core.Path.{◌≡◌}
use mathlib.Core.List.{◌++◌}
use mathlib.Core.Bool.{Bool, true, false}
use lib.ListN.{take}
use Rattle.section.specs.declared.header.Parts.{Parts}
use Rattle.rules_logs.specs.Records.{Bytes, seen_record, failed_record}
use Rattle.log_entries.specs.Entries.{entry_with, joined_of, failed_kind}
use Rattle.log_entries.specs.declared.Entry.{Entry}

module _ (input pid size : ℕ) (short : Bool) (a : Bytes) (r : Entry) (j : r ≡ entry_with a) where
  pub failed_short : short ≡ true → a ≡ failed_record 3 input pid size → r ≡ entry_with (failed_record (failed_kind short) input pid size)
  failed_short h e = rw (h, ← e) j

  pub failed_mismatch : short ≡ false → a ≡ failed_record 4 input pid size → r ≡ entry_with (failed_record (failed_kind short) input pid size)
  failed_mismatch h e = rw (h, ← e) j

module _ (kind input pid : ℕ) (r : Entry) where
  pub seen_made : (p : Parts) (a : Bytes) → a ≡ seen_record kind input pid p → r ≡ entry_with a → r ≡ entry_with (seen_record kind input pid p)
  seen_made p a e j = rw (← e) j

  pub joined_made : (p : Parts) (a b : Bytes) (e : Entry) → a ≡ seen_record kind input pid p → b ≡ a ++ take 10 e.bytes
      → ◌≡◌ {A = Entry} (record { bytes = b; length = 13 + e.length }) (joined_of (seen_record kind input pid p) e)
  unfolding joined_of
  joined_made p a b e k j = rw (← k, j)

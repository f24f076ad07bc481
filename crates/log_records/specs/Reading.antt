-- One record of a log, read from its bytes (docs/RULES.md, "Logs").
-- Assumes nothing.
use Rattle.std.specs.Prelude.{ℕ, ◌+◌, ◌-◌, ◌≡◌, List, cond, leb, ltb, eqb, length, Option, Some, None, Result, Ok, Err}
use Rattle.crc.specs.Crc.{stored_at}
use Rattle.section.specs.Header.{byte_at, word16}
use Rattle.rules_logs.specs.Records.{record_size}
use Rattle.log_records.specs.declared.Record.{Record}
use Rattle.log_records.specs.declared.ReadError.{ReadError}
use Rattle.log_records.specs.declared.ReadError.TheVariants.{Unknown, Cut}

-- what there is at a place of a log: a record (8), nothing at its end (9), no such kind (38), or a record that is cut off (39)
abbrev pub Read : Type 0
Read = Result (Option Record) ReadError

abbrev pub word_at : List ℕ → ℕ → ℕ
word_at s i = word16 (byte_at s i) (byte_at s (i + 1))

-- 1 and 2, from byte i on
unfoldable pub seen_at : List ℕ → ℕ → Record
seen_at s i = record {
  kind = byte_at s i;
  input = byte_at s (i + 1);
  pid = word_at s (i + 2);
  table_id = byte_at s (i + 4);
  extension = word_at s (i + 5);
  number = byte_at s (i + 7);
  version = byte_at s (i + 8);
  change = stored_at s (i + 9);
  length = 0;
  current_next = 0;
  last = 0;
}

-- 3 and 4
unfoldable pub failed_at : List ℕ → ℕ → Record
failed_at s i = record {
  kind = byte_at s i;
  input = byte_at s (i + 1);
  pid = word_at s (i + 2);
  table_id = 0;
  extension = 0;
  number = 0;
  version = 0;
  change = 0;
  length = word_at s (i + 4);
  current_next = 0;
  last = 0;
}

-- 5
unfoldable pub set_at : List ℕ → ℕ → Record
set_at s i = record {
  kind = byte_at s i;
  input = byte_at s (i + 1);
  pid = word_at s (i + 2);
  table_id = byte_at s (i + 4);
  extension = word_at s (i + 5);
  number = 0;
  version = byte_at s (i + 8);
  change = 0;
  length = 0;
  current_next = byte_at s (i + 7);
  last = byte_at s (i + 9);
}

-- 6: a PID that is unknown is 8192
unfoldable pub bare_set_at : List ℕ → ℕ → Record
bare_set_at s i = record {
  kind = byte_at s i;
  input = byte_at s (i + 1);
  pid = 8192;
  table_id = byte_at s (i + 2);
  extension = word_at s (i + 3);
  number = 0;
  version = byte_at s (i + 6);
  change = 0;
  length = 0;
  current_next = byte_at s (i + 5);
  last = byte_at s (i + 7);
}

-- it is the size of a kind that there is
pub record IsSize (size : ℕ) : Type 0 where
  pub kind : ℕ
  pub sized : size ≡ record_size kind
  pub known : size ≡ 0 → ⊥

-- the record of this size from byte i on
unfoldable pub fields_at : List ℕ → ℕ → (size : ℕ) → Record
fields_at s i size = cond (eqb size 13) (seen_at s i) (cond (eqb size 6) (failed_at s i) (cond (eqb size 10) (set_at s i) (bare_set_at s i)))

-- the record that begins at this place: the end of the log comes first, then a kind that there is not, then a record that is cut off
unfoldable pub read_at : List ℕ → ℕ → Read
read_at s i =
    let size : ℕ = record_size (byte_at s i) in
    cond (leb (length s) i) (Ok None) (cond (eqb size 0) (Err Unknown) (cond (ltb (length s - i) size) (Err Cut) (Ok (Some (fields_at s i size)))))

abbrev pub error_number : ReadError → ℕ
error_number Unknown = 38
error_number Cut = 39

abbrev pub read_number : Read → ℕ
read_number (Ok (Some r)) = 8
read_number (Ok None) = 9
read_number (Err e) = error_number e

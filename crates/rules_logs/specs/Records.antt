-- The records of a log (docs/RULES.md, "Logs"): a byte of kind, then a body; numbers high byte first.
-- Assumes nothing.
use Rattle.std.specs.Prelude.{ℕ, ◌/◌, ◌%◌, List, [], ◌∷◌, ◌++◌, Bool, cond, ◌||◌, eqb}
use Rattle.section.specs.declared.header.Parts.{Parts}
use Rattle.section.specs.declared.header.Header.{Header}

abbrev pub Bytes : Type 0
Bytes = List ℕ

-- how many bytes a record has, with its kind: 1 emitted, 2 suppressed, 3 short, 4 mismatch, 5 set with PID, 6 set without; 0 where there is no such kind
unfoldable pub record_size : ℕ → ℕ
record_size kind =
    cond (eqb kind 1 || eqb kind 2) 13
    (cond (eqb kind 3 || eqb kind 4) 6
    (cond (eqb kind 5) 10
    (cond (eqb kind 6) 8 0)))

abbrev pub two : ℕ → Bytes
two n = n / 256 ∷ n % 256 ∷ []

abbrev pub four : ℕ → Bytes
four n = n / 16777216 ∷ n / 65536 % 256 ∷ n / 256 % 256 ∷ n % 256 ∷ []

-- 1 and 2: input, PID, table_id, extension, section_number, version, change number
unfoldable pub seen_record : (kind input pid : ℕ) → Parts → Bytes
seen_record kind input pid p = kind ∷ input ∷ two pid ++ (p.table_id ∷ two p.extension ++ (p.number ∷ p.version ∷ four p.change))

-- 3 and 4: input, PID, and how many bytes the section has
unfoldable pub failed_record : (kind input pid length : ℕ) → Bytes
failed_record kind input pid length = kind ∷ input ∷ two pid ++ two length

-- of a set: table_id, extension, current_next (0 or 1), version, last_section_number
abbrev pub set_fields : Header → Bytes
set_fields h = h.table_id ∷ two h.extension ++ (cond h.current_next 1 0 ∷ h.version ∷ h.last ∷ [])

-- 5: a set with its PID, by the header of the section that completed it
unfoldable pub set_record : (input pid : ℕ) → Header → Bytes
set_record input pid h = 5 ∷ input ∷ two pid ++ set_fields h

-- 6: a set without a PID
unfoldable pub bare_set_record : (input : ℕ) → Header → Bytes
bare_set_record input h = 6 ∷ input ∷ set_fields h

-- The records that one section gives (docs/RULES.md, "Logs"): of what the gate answered, and of the set that the section completed.
-- `cond test a b` is a where the test is true, else b.
-- Assumes nothing.
use Rattle.std.specs.Prelude.{ℕ, [], Bool, true, false, cond, ◌&&◌, length, leb, ltb, Option, Some, None, Result, Ok, Err}
use Rattle.section.specs.Header.{table_id_of, header_of}
use Rattle.section.specs.Judged.{form_of, parts_of, bare_parts, checked_change}
use Rattle.section.specs.declared.header.ChangeRule.{ChangeRule}
use Rattle.section.specs.declared.header.Form.{Form}
use Rattle.section.specs.declared.header.Form.TheVariants as form
use Rattle.offers.specs.Offers.{is_short}
use Rattle.gate_state.specs.declared.Answer.{Answer}
use Rattle.gate_state.specs.declared.Answer.TheVariants as answer
use Rattle.rules_logs.specs.Records.{Bytes, seen_record, failed_record, set_record, bare_set_record}
use Rattle.log_entries.specs.Entries.{entry_with, failed_kind}
use Rattle.log_entries.specs.declared.Entry.{Entry}
use Rattle.section.specs.declared.header.Parts.{Parts}
use Rattle.log_makers.specs.declared.NoteError.{NoteError}
use Rattle.log_makers.specs.declared.NoteError.TheVariants.{TooLong}

-- ---- of an offer

-- where the form announces a CRC, there is room for it
abbrev pub room_for : Form → ℕ → Bool
room_for form.Headed n = leb 4 n
room_for form.Checked n = leb 4 n
room_for form.Plain n = true

-- 3 bytes or more, and room for the CRC that the form announces: all that the gate asks of a section but the CRC itself
unfoldable pub has_parts : Bytes → Bool
has_parts s = cond (ltb (length s) 3) false (room_for (form_of s) (length s))

-- with a checked CRC and no header
unfoldable pub checked_in : ChangeRule → Bytes → Option Parts
checked_in rule s = cond (ltb (length s) 4) None (Some (bare_parts (table_id_of s) (checked_change rule s)))

-- the parts of a section that the gate has found sound; none where it cannot have been
unfoldable pub parts_in : ChangeRule → Bytes → Option Parts
parts_in rule s = cond (has_parts s) (Some (parts_of rule s (form_of s))) None

-- 1 and 2
abbrev pub seen_or : (kind input pid : ℕ) → Option Parts → Bytes
seen_or kind input pid (Some p) = seen_record kind input pid p
seen_or kind input pid None = []

-- what the gate answered as a record: 1 emitted, 2 suppressed, 3 short (31), 4 mismatch (3); none of a refusal
unfoldable pub offer_record : Answer → ChangeRule → (input pid : ℕ) → Bytes → Bytes
offer_record answer.Emitted rule input pid s = seen_or 1 input pid (parts_in rule s)
offer_record answer.Suppressed rule input pid s = seen_or 2 input pid (parts_in rule s)
offer_record (answer.Failed f) rule input pid s = failed_record (failed_kind (is_short f)) input pid (length s)
offer_record (answer.Refused r) rule input pid s = []

-- an input and a PID that there are
abbrev pub is_origin : (input pid : ℕ) → Bool
is_origin input pid = ltb input 16 && ltb pid 8192

-- 0, 6 or 13 bytes, 0 where there is no such input or PID
unfoldable pub offer_noted : Answer → ChangeRule → (input pid : ℕ) → Bytes → Entry
offer_noted a rule input pid s = entry_with (cond (is_origin input pid) (offer_record a rule input pid s) [])

-- 42 where the section has more than 4,098 bytes; else 7
unfoldable pub noted_of : Answer → ChangeRule → (input pid : ℕ) → Bytes → Result Entry NoteError
noted_of a rule input pid s =
    cond (ltb 4098 (length s)) (Err TooLong) (Ok (offer_noted a rule input pid s))

-- none where nothing is noted
abbrev pub entry_in : Result Entry NoteError → Entry
entry_in (Ok e) = e
entry_in (Err TooLong) = entry_with []

abbrev pub noting_no : Result Entry NoteError → ℕ
noting_no (Ok e) = 7
noting_no (Err TooLong) = 42

-- ---- of a set

-- the set that this section completed, with its PID (5); none without one
abbrev pub set_record_of : (input : ℕ) → Option ℕ → Bytes → Bytes
set_record_of input (Some pid) s = set_record input pid (header_of s)
set_record_of input None s = []

-- an input and a PID that there are
abbrev pub is_source : (input : ℕ) → Option ℕ → Bool
is_source input (Some pid) = is_origin input pid
is_source input None = false

-- none of a section under 12 bytes, which completes no set
unfoldable pub set_entry : (input : ℕ) → Option ℕ → Bytes → Entry
set_entry input pid s = entry_with (cond (is_source input pid && leb 12 (length s)) (set_record_of input pid s) [])

-- ---- by the older definition, which knows no PIDs

-- the set that this section completed (6)
abbrev pub bare_record_of : (input : ℕ) → Bytes → Bytes
bare_record_of input s = bare_set_record input (header_of s)

unfoldable pub bare_set_entry : (input : ℕ) → Bytes → Entry
bare_set_entry input s = entry_with (cond (ltb input 16 && leb 12 (length s)) (bare_record_of input s) [])

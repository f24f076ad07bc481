-- The numbers of the answers (docs/RULES.md, "Answers").
use Rattle.std.specs.Prelude.{ℕ, Result, Ok, Err, Bool, true, false, ⊤}
use Rattle.answers.specs.declared.Refusal.{Refusal}
use Rattle.answers.specs.declared.Refusal.TheVariants.{NotWhole, CounterFull, BadPid, TooLittle, Malformed, ShortForm, BadNumber, BadCrc, NotEit, Broken, TooLong, NoCell, Conflict, Range, BadInput, NoPid}

abbrev pub refusal_no : Refusal → ℕ
-- the lent store is not whole
refusal_no NotWhole = 10
-- a section is given and a counter of the part is at its end
refusal_no CounterFull = 11
-- a PID of 8192 or more
refusal_no BadPid = 12
-- opening: less is lent than the settings need, or a setting is out of range
refusal_no TooLittle = 13
-- under 3 bytes, a total that is not 3 + section_length, or a long form under 12 bytes
refusal_no Malformed = 14
-- a section of the short form, to a collector
refusal_no ShortForm = 15
-- a section_number above last_section_number
refusal_no BadNumber = 16
-- a CRC that is not the one of the bytes before it
refusal_no BadCrc = 17
-- no EIT's table_id
refusal_no NotEit = 18
-- an EIT whose layout is broken
refusal_no Broken = 19
-- a section longer than a cell
refusal_no TooLong = 20
-- a section that needs a cell, and none is free
refusal_no NoCell = 21
-- other bytes than those kept under the same key, version and number
refusal_no Conflict = 22
-- a schedule's table_id above last_table_id
refusal_no Range = 23
-- an input of 16 or more
refusal_no BadInput = 37
-- a section without a PID, or a store in which a row has none, to a collector
refusal_no NoPid = 41

-- what opening, clearing or dropping answers
abbrev pub Outcome : Type 0
Outcome = Result ⊤ Refusal

-- what a question answers
abbrev pub Reply : Type 0
Reply = Result Bool Refusal

abbrev pub outcome_no : Outcome → ℕ
-- opened, cleared or dropped
outcome_no (Ok _) = 7
outcome_no (Err r) = refusal_no r

abbrev pub reply_no : Reply → ℕ
reply_no (Ok true) = 8
reply_no (Ok false) = 9
reply_no (Err r) = refusal_no r

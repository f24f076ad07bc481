-- What the three calls answer and leave, for every content of what is lent (docs/RULES.md, "Entries" and "Answers"). `cond test a b` is a where the test is true, else b.
use Rattle.std.specs.Prelude.{ℕ, ◌+◌, ◌*◌, ◌≤◌, ◌≡◌, List, Bool, false, cond, not, ◌&&◌, length, ltb, eqb}
use Rattle.answers.specs.declared.Refusal.TheVariants as refusal
use Rattle.section.specs.Header.{byte_at}
use Rattle.section.specs.Judged.{malformed}
use Rattle.rows.specs.Rows.{key_at, row_slots, last_of}
use Rattle.rows.specs.declared.Entry.{Entry}
use Rattle.handed.specs.Handed.{set_out_lem}
use Rattle.units.specs.Units.{unit_slots}
use Rattle.schedules.specs.Schedules.{tables_of, tables_there}
use Rattle.eit_state.specs.State.{Store, whole_of}
use Rattle.eit_pids.specs.Rows.{any_without}
use Rattle.shown_sections.specs.Shown.{Show, nothing_shown, section_show, slots_show, laid}
use Rattle.shown_sections.specs.declared.Shown.{Shown}
use Rattle.shown_sections.specs.declared.ShowAnswer.TheVariants.{No, Refused}

-- ---- one section: 14 first, then 18 and 19, then its events

unfoldable pub shown_section : (section : List ℕ) → (skip : ℕ) → (list : List ℕ) → Shown × List ℕ
shown_section section skip list =
    cond (malformed section) (nothing_shown (Refused refusal.Malformed), list) (laid skip (section_show section 0 (length section) (byte_at section 6)) list)

-- ---- a set: 10 first, then 41 where a set or a schedule has no PID, then 9 where it is not one that was handed out

unfoldable pub shown_set : Store → (row skip : ℕ) → (list : List ℕ) → Shown × List ℕ
shown_set s row skip list =
    cond (whole_of s)
    (cond (any_without s.eit s.heads s.schedule_heads) (nothing_shown (Refused refusal.NoPid), list)
    (cond (set_out_lem s.heads s.eit.sets.used row) (laid skip (slots_show s.cells s.eit.sets.size (row_slots s.heads s.slots row) 0) list) (nothing_shown No, list)))
    (nothing_shown (Refused refusal.NotWhole), list)

-- ---- a table of a schedule

-- the schedule's key, kind and last_table_id
abbrev pub head_entry : (schedule_heads : List ℕ) → (row : ℕ) → Entry
head_entry schedule_heads row = record { key = key_at schedule_heads row; version = 0; last = last_of schedule_heads row; number = 0 }

-- every table from the first of its kind to last_table_id is there
unfoldable pub schedule_whole : (schedule_heads units : List ℕ) → (row : ℕ) → Bool
schedule_whole schedule_heads units row = tables_there units row (head_entry schedule_heads row)

-- a schedule in use that has the table, and all others
unfoldable pub table_out : (schedule_heads units : List ℕ) → (schedules row table : ℕ) → Bool
table_out schedule_heads units schedules row table =
    cond (ltb row schedules) (cond (ltb table (tables_of schedule_heads row)) (schedule_whole schedule_heads units row) false) false

unfoldable pub shown_table : Store → (row table skip : ℕ) → (list : List ℕ) → Shown × List ℕ
shown_table s row table skip list =
    cond (whole_of s)
    (cond (any_without s.eit s.heads s.schedule_heads) (nothing_shown (Refused refusal.NoPid), list)
    (cond (table_out s.schedule_heads s.units s.eit.schedules row table)
    (laid skip (slots_show s.cells s.eit.sets.size (unit_slots s.units (row * 16 + table)) 0) list)
    (nothing_shown No, list)))
    (nothing_shown (Refused refusal.NotWhole), list)

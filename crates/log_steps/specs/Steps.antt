-- The records of a section that the gate takes (docs/RULES.md, "Logs"): its own, and that of the set that it completes.
-- `cond test a b` is a where the test is true, else b.
-- Assumes nothing.
use Rattle.std.specs.Prelude.{ℕ, ◌≤◌, List, [], ◌∷◌, Bool, cond, ◌||◌, length, Some}
use Rattle.section.specs.Judged.{collected_of}
use Rattle.section.specs.declared.header.Parts.{Parts}
use Rattle.rows.specs.declared.Origin.{Origin}
use Rattle.store.specs.Store.{Store}
use Rattle.arrivals.specs.Arrivals.{set_read}
use Rattle.sets.specs.Store.{pushed_as}
use Rattle.sets_settle.specs.Settle.{Told, done, nothing, handed, refused, SetsAfter}
use Rattle.sets_settle.specs.declared.PushAnswer.{PushAnswer}
use Rattle.sets_settle.specs.declared.PushAnswer.TheVariants as push_answer
use Rattle.rules_logs.specs.Records.{Bytes, seen_record}
use Rattle.log_entries.specs.Entries.{entry_with, joined_of}
use Rattle.log_entries.specs.declared.Entry.{Entry}
use Rattle.log_makers.specs.Makers.{set_record_of, bare_record_of, set_entry, bare_set_entry}

-- where a section came from, in the words of a key: with its PID where sets are taken with PIDs; by the older definition with 8192, a number that no PID has
abbrev pub from_for : (pids : Bool) → (input pid : ℕ) → Origin
from_for pids input pid = record { input = input; pid = cond pids pid 8192 }

-- what a section from there leaves in a collector that is whole: 14 to 17, or as the collector has it past 41 and 12
unfoldable pub gathered_of : Store → Origin → Bytes → SetsAfter
gathered_of s from section = pushed_as s section (set_read from (collected_of section))

-- changed, or repeats are on: emitted (1); else suppressed (2)
abbrev pub seen_kind : (changed repeats : Bool) → ℕ
seen_kind changed repeats = cond (changed || repeats) 1 2

-- the record of a set: with its PID (5), or by the older definition without (6)
abbrev pub line_for : (pids : Bool) → (input pid : ℕ) → Bytes → Bytes
line_for pids input pid section = cond pids (set_record_of input (Some pid) section) (bare_record_of input section)

-- a set that goes out is a record; any other answer of the collector gives none
abbrev pub set_records : (pids : Bool) → (input pid : ℕ) → Bytes → Told → List Bytes
set_records pids input pid section done = []
set_records pids input pid section nothing = []
set_records pids input pid section (handed h) = line_for pids input pid section ∷ []
set_records pids input pid section (refused r) = []

-- the same by what a push answers
abbrev pub set_entry_for : (pids : Bool) → (input pid : ℕ) → Bytes → Entry
set_entry_for pids input pid section = cond pids (set_entry input (Some pid) section) (bare_set_entry input section)

abbrev pub set_noted : (pids : Bool) → (input pid : ℕ) → Bytes → PushAnswer → Entry
set_noted pids input pid section push_answer.Nothing = entry_with []
set_noted pids input pid section (push_answer.Set i) = set_entry_for pids input pid section
set_noted pids input pid section (push_answer.Refused r) = entry_with []

-- the gate's record, then the set's
unfoldable pub seen_noted : (kind input pid : ℕ) → Parts → (pids : Bool) → Bytes → PushAnswer → Entry
seen_noted kind input pid parts pids section answer = joined_of (seen_record kind input pid parts) (set_noted pids input pid section answer)

-- only a section that a collector takes completes a set
abbrev pub PushedOk : Bytes → PushAnswer → Type 0
PushedOk section push_answer.Nothing = Unit {0}
PushedOk section (push_answer.Set i) = 12 ≤ length section
PushedOk section (push_answer.Refused r) = Unit {0}

-- The log that sections give (docs/RULES.md, "Logs"): an opened gate and an opened set collector, no clears, each section in its order. Over the gate's
-- rules and the set collector's with cells; no memory is lent, and no watch and no counters are looked at.
-- Assumes nothing.
use Rattle.std.specs.Prelude.{ℕ, List, [], ◌∷◌, ◌++◌, Bool, true, false, cond, ◌||◌, ltb, length, replicate}
use Rattle.section.specs.Ids.{origin_of}
use Rattle.section.specs.Key.{key_of}
use Rattle.section.specs.Judged.{rule_of, judged_of, collected_of}
use Rattle.section.specs.declared.header.Parts.{Parts}
use Rattle.section.specs.declared.header.Header.{Header}
use Rattle.section.specs.declared.header.Judged.{Judged}
use Rattle.section.specs.declared.header.Judged.TheVariants.{Short, Mismatch, Sound}
use Rattle.ring.specs.Rules.{Row, changed, offered_to}
use Rattle.rules_shared.specs.Cells.{Cells}
use Rattle.rules_shared.specs.Touch.{untouched}
use Rattle.rules_sets.specs.Rules.{Call, Whole, Answer, cleared, nothing, handout, refused}
use Rattle.rules_sets.specs.Cells.{Store, call_tells, call_acts}
use Rattle.ties_sets.specs.View.{reads_as}
use Rattle.rules_logs.specs.Records.{Bytes, seen_record, failed_record, set_record, bare_set_record}
use Rattle.rules_logs.specs.Sections.{Given}
use Rattle.rules_logs.specs.Verdict as records

-- what a log is made by: the gate's capacity, repeats and change rule; the collector's limit, cell size and number of cells; whether sets are taken with
-- their PIDs, or else by the older definition, which knows no PIDs
pub record Settings : Type 0 where
  pub capacity : ℕ
  pub repeats : Bool
  pub rule : ℕ
  pub limit : ℕ
  pub size : ℕ
  pub count : ℕ
  pub pids : Bool

-- what is held between two sections: the gate's keys in order of first arrival, and the set collector
pub record Kept : Type 0 where
  pub rows : List Row
  pub sets : Store

-- "no rows, counts 0", over these cells
abbrev pub opened_over : Settings → Cells → Kept
opened_over o cells = record { rows = []; sets = record { settings = record { limit = o.limit; cell_size = o.size }; sets = untouched; cells = cells; clock = 0 } }

-- what the cells hold before matters to no record
abbrev pub opened : Settings → Kept
opened o = opened_over o (replicate o.count [])

-- the records that a section gives, and what is held then
pub record Entry : Type 0 where
  pub records : List Bytes
  pub kept : Kept

-- ---- the set collector

-- the number that a section's key has of a PID: its PID; by the older definition 8192, a number that no PID has
abbrev pub pid_of : Settings → Given → ℕ
pid_of o g = cond o.pids g.pid 8192

-- the section with its input and that number; 14 to 17, or what it says
unfoldable pub pushed : Settings → Given → Call
pushed o g = reads_as (record { input = g.input; pid = pid_of o g }) g.section (collected_of g.section)

-- what a set says of itself; no record has a section_number of it
abbrev pub set_header : Whole → Header
set_header w = record {
  table_id = w.key.table_id_of;
  extension = w.key.extension;
  version = w.version;
  current_next = w.key.current_next_of;
  number = 0;
  last = w.last;
}

-- 5 with the PID of its key, by the older definition 6
unfoldable pub set_line : (pids : Bool) → (input pid : ℕ) → Header → Bytes
set_line true input pid h = set_record input pid h
set_line false input pid h = bare_set_record input h

-- a set gives a record, every other answer none
unfoldable pub set_records : (pids : Bool) → Answer → List Bytes
set_records pids cleared = []
set_records pids nothing = []
set_records pids (handout w) = set_line pids w.key.from.input w.key.from.pid (set_header w) ∷ []
set_records pids (refused r) = []

-- ---- the gate

-- the row of a sound section: its key, version and change number
abbrev pub row_of : Given → Parts → Row
row_of g p = record { key = key_of (origin_of g.input g.pid) p.table_id p.extension p.number; version = p.version; change = p.change }

-- "A section that is changed is emitted; any other is emitted where repeats are on, and else suppressed": kind 1, and 2
abbrev pub kind_of : Settings → List Row → Row → ℕ
kind_of o rows n = cond (changed n rows || o.repeats) 1 2

-- emitted or suppressed: its record, and then the collector is asked
unfoldable pub sound : Settings → Kept → Given → Parts → Entry
sound o k g p = record {
  records = seen_record (kind_of o k.rows (row_of g p)) g.input g.pid p ∷ set_records o.pids (call_tells k.sets (pushed o g));
  kept = record { rows = offered_to o.capacity (row_of g p) k.rows; sets = call_acts k.sets (pushed o g) };
}

-- too short (31) is kind 3, a mismatch (3) is kind 4, with the section's length; nothing else changes
unfoldable pub judged : Settings → Kept → Given → Judged → Entry
judged o k g Short = record { records = failed_record 3 g.input g.pid (length g.section) ∷ []; kept = k }
judged o k g (Mismatch stored worked) = record { records = failed_record 4 g.input g.pid (length g.section) ∷ []; kept = k }
judged o k g (Sound p) = sound o k g p

-- 12 and 37 give nothing
unfoldable pub entry_of : Settings → Kept → Given → Entry
entry_of o k g =
    cond (ltb g.pid 8192) (cond (ltb g.input 16) (judged o k g (judged_of (rule_of o.rule) g.section)) (record { records = []; kept = k })) (record { records = []; kept = k })

-- ---- all sections

-- the records of sections from what is held on, one after another
unfoldable pub records_from : Settings → Kept → List Given → List Bytes
records_from o k [] = []
records_from o k (g ∷ gs) = (entry_of o k g).records ++ records_from o (entry_of o k g).kept gs

-- .. from opening on
unfoldable pub records_of : Settings → List Given → List Bytes
records_of o gs = records_from o (opened o) gs

-- the log
unfoldable pub log_of : Settings → List Given → Bytes
log_of o gs = records.log_of (records_of o gs)

-- The older definition, by which every set was collected without a PID (docs/RULES.md, "Logs"), in its own words: "PID or none". No PID is a number that no
-- PID has, so the older definition is the collector's with that number as every section's.
-- Assumes nothing.
use Rattle.std.specs.Prelude.{ℕ, ◌<◌, false, ◌≢◌, List, [], ◌∷◌, get_or}
use Rattle.std.proofs.Math.Option.{Option, none, some}
use Rattle.section.specs.Judged.{collected_of}
use Rattle.rules_sets.specs.Rules.{Call}
use Rattle.ties_sets.specs.View.{reads_as}
use Rattle.rules_logs.specs.Records.{Bytes}
use Rattle.rules_logs.specs.Sections.{Given}
use Rattle.rules_log_run.specs.Run.{Settings, log_of}

-- the number that a key has of "PID or none"
abbrev pub pid_number : Option ℕ → ℕ
pid_number none = 8192
pid_number (some pid) = pid

-- none, or a PID that there is
abbrev pub IsPid : Option ℕ → Type 0
IsPid none = Unit {0}
IsPid (some pid) = pid < 8192

-- a section with this PID or none
abbrev pub collected_with : Option ℕ → Given → Call
collected_with pid g = reads_as (record { input = g.input; pid = pid_number pid }) g.section (collected_of g.section)

abbrev pub older : Settings → Settings
older o = record { capacity = o.capacity; repeats = o.repeats; rule = o.rule; limit = o.limit; size = o.size; count = o.count; pids = false }

-- the log by the older definition
unfoldable pub older_log : Settings → List Given → Bytes
older_log o gs = log_of (older o) gs

-- none of these records has this kind
abbrev pub NoneOf : (kind : ℕ) → List Bytes → Type 0
NoneOf kind [] = Unit {0}
NoneOf kind (e ∷ es) = (get_or e 0 0 ≢ kind) × NoneOf kind es

-- The log that a live monitor keeps (docs/RULES.md, "Logs"): after each offer it appends what the maker gives of the answer; it gives every section answered 1 or
-- 2, with its PID, to one set collector, which is never cleared, and where a set goes out it appends what the maker gives of it.
-- Assumes nothing.
use Rattle.std.specs.Prelude.{ℕ, List, [], ◌∷◌, ◌++◌, true, cond, take, Some}
use Rattle.section.specs.Judged.{rule_of}
use Rattle.gate_state.specs.State.{is_sound}
use Rattle.gate_state.specs.declared.Answer.{Answer}
use Rattle.gate_state.specs.declared.Settings.{Settings as GateSettings}
use Rattle.store.specs.Store.{Store}
use Rattle.sets_settle.specs.Settle.{Told, done, nothing, handed, refused, SetsAfter}
use Rattle.sets.specs.Store.{pushed_of}
use Rattle.rules_logs.specs.Records.{Bytes}
use Rattle.rules_logs.specs.Sections.{Given}
use Rattle.rules_log_run.specs.Run.{Settings}
use Rattle.log_entries.specs.declared.Entry.{Entry}
use Rattle.log_makers.specs.Makers.{noted_of, entry_in, set_entry}

-- the bytes of an entry
abbrev pub entry_bytes : Entry → Bytes
entry_bytes e = take e.length e.bytes

-- after a push: the record of a set where one goes out (5)
unfoldable pub set_noted : Given → Told → Bytes
set_noted g done = []
set_noted g nothing = []
set_noted g (handed w) = entry_bytes (set_entry g.input (Some g.pid) g.section)
set_noted g (refused r) = []

-- after an offer
unfoldable pub offer_noted : Settings → Answer → Given → Bytes
offer_noted o a g = entry_bytes (entry_in (noted_of a (rule_of o.rule) g.input g.pid g.section))

unfoldable pub pushes : Store → Given → SetsAfter
pushes c g = pushed_of c g.input (Some g.pid) g.section

-- what is appended for a section that the gate answered so, c being the collector
unfoldable pub appended : Settings → Store → Answer → Given → Bytes
appended o c a g = offer_noted o a g ++ cond (is_sound a) (set_noted g (pushes c g).told) []

-- the collector gets every section answered 1 or 2
unfoldable pub collects : Store → Answer → Given → Store
collects c a g = cond (is_sound a) (pushes c g).store c

-- the log of sections and of what the gate answered to each
unfoldable pub kept_log : Settings → Store → List Answer → List Given → Bytes
kept_log o c [] gs = []
kept_log o c (a ∷ as') [] = []
kept_log o c (a ∷ as') (g ∷ gs) = appended o c a g ++ kept_log o (collects c a g) as' gs

-- ---- settings

-- a log's settings: those of a gate, and of a collector; with PIDs
abbrev pub settings_for : GateSettings → (limit size count : ℕ) → Settings
settings_for st limit size count = record { capacity = st.capacity; repeats = st.repeats; rule = st.change_rule; limit = limit; size = size; count = count; pids = true }

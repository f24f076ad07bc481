-- A run of a log over lent memory, one section after another, and what it stands for in the words of the rules (docs/RULES.md, "Logs").
-- Assumes nothing.
use Rattle.std.specs.Prelude.{ℕ, ◌≡◌, true, false, List, [], ◌∷◌, ◌++◌, length, take}
use Rattle.section.specs.Judged.{rule_known}
use Rattle.ring.specs.View.{Memory, in_order}
use Rattle.ring.specs.View.{Reached as RingReached}
use Rattle.store.specs.Store.{WholeStore}
use Rattle.ties_sets.specs.View.{seen, Standing}
use Rattle.rules_logs.specs.Records.{Bytes}
use Rattle.rules_logs.specs.Sections.{Given}
use Rattle.laws.specs.Runs.{answers}
use Rattle.rules_log_run.specs.Run.{Settings, Kept}
use Rattle.log_state.specs.State.{is_with, is_without, Lent, sets_in, take_no, can_open}
use Rattle.log_state.specs.declared.Settings.{Settings as Asked}
use Rattle.log_state.specs.declared.Run.{Run}
use Rattle.log_run.specs.Store.{Taking, taking, taken_of}
use Rattle.log_entries.specs.declared.Entry.{Entry}

-- ---- sections one after another

-- what `take` is proved to answer, to give and to leave (`taken_of` of the crate log_run)
abbrev pub takes : Lent → Given → Taking
takes s g = taking s g.input g.pid g.section

unfoldable pub takes_no : Lent → Given → ℕ
takes_no s g = take_no (takes s g).answer

unfoldable pub leaves : Lent → Given → Lent
leaves s g = (takes s g).left

-- its records: of each section none, one or two
unfoldable pub gives : Lent → Given → List Bytes
gives s g = (takes s g).records

-- the entries of sections, one for each
abbrev pub entries_by : Lent → List Given → List (List Bytes)
entries_by s gs = answers gives leaves s gs

-- the bytes that the entry of a section shows
abbrev pub shows : Lent → Given → Bytes
shows s g = let e : Entry = (taken_of s g.input g.pid g.section).entry in take e.length e.bytes

-- .. of sections one after another
unfoldable pub bytes_by : Lent → List Given → Bytes
bytes_by s [] = []
bytes_by s (g ∷ gs) = shows s g ++ bytes_by (taken_of s g.input g.pid g.section).left gs

-- ---- what a run stands for

-- the gate's memory
abbrev pub memory_in : Lent → Memory
memory_in s = record { ring = s.run.ring; keys = s.keys; changes = s.changes }

-- the keys in order of first arrival, and what the collector's memory shows
abbrev pub kept_in : Lent → Kept
kept_in s = record { rows = in_order (memory_in s); sets = seen (sets_in s) }

-- the settings that a section looks at; limit, cell size and number of cells are looked at by opening alone
abbrev pub settings_at : (limit size count : ℕ) → Run → Settings
settings_at limit size count r = record { capacity = r.ring.capacity; repeats = r.repeats; rule = r.rule; limit = limit; size = size; count = count; pids = is_with r.pids }

-- what opening is asked for
abbrev pub settings_of : Asked → Settings
settings_of a = record { capacity = a.capacity; repeats = a.repeats; rule = a.rule; limit = a.limit; size = a.size; count = a.count; pids = is_with a.pids }

-- 7: so much is lent, and such are the settings
abbrev pub Opens : Asked → (keys changes heads slots cells : List ℕ) → Type 0
Opens a keys changes heads slots cells = can_open a (length keys) (length changes) (length heads) (length slots) (length cells) ≡ true

-- what every run that comes from opening has
pub record Reached (s : Lent) : Type 0 where
  pub rows : RingReached (memory_in s)
  pub rule : rule_known s.run.rule ≡ true
  pub taken : is_without s.run.pids ≡ false
  pub sets : Standing (sets_in s)
  pub whole : WholeStore (sets_in s)

-- The sections of a list through a run of a log, one after another (docs/RULES.md, "Logs").
-- Assumes nothing.
use Rattle.std.specs.Prelude.{ℕ, ◌≡◌, List, [], ◌∷◌, ◌++◌, Bool, length, take}
use Rattle.rules_logs.specs.Records.{Bytes}
use Rattle.rules_logs.specs.Sections.{Given}
use Rattle.rules_logs.specs.Verdict.{log_of}
use Rattle.log_entries.specs.Entries.{entry_with}
use Rattle.log_entries.specs.declared.Entry.{Entry}
use Rattle.log_list.specs.List.{given_at}
use Rattle.log_list.specs.declared.Place.{Place}
use Rattle.log_state.specs.State.{Lent, lent, can_open}
use Rattle.log_state.specs.declared.Run.{Run}
use Rattle.log_state.specs.declared.Settings.{Settings}
use Rattle.log_run.specs.Store.{Taking, taking}
use Rattle.log_sections.specs.declared.Step.{Step}

-- what a section comes to
abbrev pub takes : Lent → Given → Taking
takes s g = taking s g.input g.pid g.section

-- the records that sections give, in order
unfoldable pub records_by : Lent → List Given → List Bytes
records_by s [] = []
records_by s (g ∷ gs) = (takes s g).records ++ records_by (takes s g).left gs

-- the run and the memory that they leave
unfoldable pub left_by : Lent → List Given → Lent
left_by s [] = s
left_by s (g ∷ gs) = left_by (takes s g).left gs

-- the section that a place of a list tells of, taken
pub record Stepped (list : Bytes) (place : Place) (s : Lent) (r : Step) (after : Lent) : Type 0 where
  pub entry : r.entry ≡ entry_with (log_of (takes s (given_at list place)).records)
  pub left : after ≡ (takes s (given_at list place)).left

-- the bytes that an entry shows
abbrev pub shown_in : Entry → Bytes
shown_in e = take e.length e.bytes

-- ---- the content of the five lent slices

pub record Memory : Type 0 where
  pub keys : List ℕ
  pub changes : List ℕ
  pub heads : List ℕ
  pub slots : List ℕ
  pub cells : List ℕ

abbrev pub memory : (keys changes heads slots cells : List ℕ) → Memory
memory keys changes heads slots cells = record { keys = keys; changes = changes; heads = heads; slots = slots; cells = cells }

-- a run over it
abbrev pub over : Run → Memory → Lent
over run m = lent run m.keys m.changes m.heads m.slots m.cells

abbrev pub memory_in : Lent → Memory
memory_in s = memory s.keys s.changes s.heads s.slots s.cells

-- the memory lent is enough for these settings, and opening refuses none of them
abbrev pub opens : Settings → Memory → Bool
opens s m = can_open s (length m.keys) (length m.changes) (length m.heads) (length m.slots) (length m.cells)

-- the slices keep their lengths
pub record Lengths (m n : Memory) : Type 0 where
  pub keys : length n.keys ≡ length m.keys
  pub changes : length n.changes ≡ length m.changes
  pub heads : length n.heads ≡ length m.heads
  pub slots : length n.slots ≡ length m.slots
  pub cells : length n.cells ≡ length m.cells

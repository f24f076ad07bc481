-- How long a log is, as far as there is room for it (docs/RULES.md, "Logs"). `cond test a b` is a where the test is true, else b.
-- Assumes nothing.
use Rattle.std.specs.Prelude.{ℕ, ◌-◌, ◌≡◌, List, [], ◌∷◌, cond, ltb, length, Option, Some, None}
use Rattle.rules_logs.specs.Records.{Bytes}
use Rattle.rules_logs.specs.Sections.{Given}
use Rattle.rules_logs.specs.Verdict.{log_of}
use Rattle.log_list.specs.List.{givens_from}
use Rattle.log_state.specs.State.{Lent}
use Rattle.log_run.specs.Store.{Taking}
use Rattle.log_sections.specs.Steps.{takes, records_by, Memory, memory_in}

-- the log of sections
abbrev pub log_by : Lent → List Given → Bytes
log_by s gs = log_of (records_by s gs)

-- no room: the log is longer than the room
abbrev pub measured_of : (room size : ℕ) → Option ℕ
measured_of room size = cond (ltb room size) None (Some size)

-- what is left after the sections that are looked at: none after the first whose records find no room
unfoldable pub fitted_in : (free : ℕ) → Lent → List Given → Lent
fitted_in free s [] = s
fitted_in free s (g ∷ gs) =
    let t : Taking = takes s g in
    let size : ℕ = length (log_of t.records) in
    cond (ltb free size) t.left (fitted_in (free - size) t.left gs)

pub record MeasuredBy (list : Bytes) (room : ℕ) (s : Lent) (r : Option ℕ) (m : Memory) : Type 0 where
  pub tells : r ≡ measured_of room (length (log_by s (givens_from list 0)))
  pub leaves : m ≡ memory_in (fitted_in room s (givens_from list 0))

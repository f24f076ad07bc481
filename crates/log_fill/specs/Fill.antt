-- A log written into the room for it (docs/RULES.md, "Logs").
-- Assumes nothing.
use Rattle.std.specs.Prelude.{ℕ, ◌≤◌, ◌≡◌, ◌++◌, length}
use Rattle.std.proofs.lemmas.List.Edits.{sets}
use Rattle.rules_logs.specs.Records.{Bytes}
use Rattle.rules_logs.specs.Verdict.{log_of}
use Rattle.log_list.specs.List.{givens_from}
use Rattle.log_state.specs.State.{Lent}
use Rattle.log_sections.specs.Steps.{records_by, left_by, Memory, memory_in}

-- bytes put in at a place, and whatever comes behind them put in at place r
pub record PutAt (room : Bytes) (at : ℕ) (bytes : Bytes) (r : ℕ) (after : Bytes) : Type 0 where
  pub on : (more : Bytes) → sets room at (bytes ++ more) ≡ sets after r more
  pub within : r ≤ length after

-- the log of the sections from the start of the room on, and what is left of the run
pub record FilledBy (list room : Bytes) (s : Lent) (after : Bytes) (m : Memory) : Type 0 where
  pub log : after ≡ sets room 0 (log_of (records_by s (givens_from list 0)))
  pub leaves : m ≡ memory_in (left_by s (givens_from list 0))

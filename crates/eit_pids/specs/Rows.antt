-- Rows without a PID, of sets and of schedules (docs/RULES.md, "Layouts" and "Answers"): both kinds of heads have it in word 0.
-- Assumes nothing.
use Rattle.std.specs.Prelude.{ℕ, ◌*◌, ◌≤◌, List, Bool, ◌||◌, length}
use Rattle.without_pid.specs.Pids.{without_pid}
use Rattle.eit_state.specs.declared.Eit.{Eit}

-- 41: a set or a schedule in use has no PID
unfoldable pub any_without : Eit → (heads schedule_heads : List ℕ) → Bool
any_without e heads schedule_heads = without_pid heads e.sets.used || without_pid schedule_heads e.schedules

-- what the function asks: heads for the rows in use
pub record HeadsFit (e : Eit) (heads schedule_heads : List ℕ) : Type 0 where
  pub sets : e.sets.used * 12 ≤ length heads
  pub schedules : e.schedules * 12 ≤ length schedule_heads

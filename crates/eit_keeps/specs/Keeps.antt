-- What a push keeps, of every store of the EIT collector, damaged ones included (docs/RULES.md, "Layouts" and "Answers").
-- Assumes nothing.
use Rattle.std.specs.Prelude.{ℕ, ◌<◌, ◌≡◌, ◌≢◌, true}
use Rattle.rows.specs.Rows.{word}
use Rattle.schedules.specs.Schedules.{schedules_whole}
use Rattle.eit_state.specs.State.{Store, Whole}

-- no call on it answers 10: lengths and counts fit, and every slot of a set and of a schedule in use is whole
pub record WholeStore (s : Store) : Type 0 where
  pub fits : Whole s
  pub units : schedules_whole s.schedule_heads s.units s.eit.sets.count s.eit.sets.size s.eit.schedules ≡ true

-- no call on it answers 41 but for its own PID: each set and each schedule in use has one
pub record HasPids (s : Store) : Type 0 where
  pub sets : (i : ℕ) → i < s.eit.sets.used → word s.heads i 0 ≢ 8192
  pub schedules : (k : ℕ) → k < s.eit.schedules → word s.schedule_heads k 0 ≢ 8192

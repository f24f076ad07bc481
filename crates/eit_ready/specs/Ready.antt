-- What holds of a store of the EIT collector from one section to the next (docs/RULES.md, "Layouts" and "Answers").
-- Assumes nothing.
use Rattle.std.specs.Prelude.{◌≡◌, false}
use Rattle.eit_state.specs.State.{Store}
use Rattle.eit_pids.specs.Rows.{any_without}
use Rattle.eit_keeps.specs.Keeps.{WholeStore}

-- it is whole, and each set and each schedule in use has a PID
pub record Pushable (s : Store) : Type 0 where
  pub whole : WholeStore s
  pub pids : any_without s.eit s.heads s.schedule_heads ≡ false

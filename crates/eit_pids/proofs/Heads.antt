-- What the test says, and where it may be made.
-- Assumes nothing.
use mathlib.Core.Path.{◌≡◌}
use mathlib.Core.List.{List}
use mathlib.Core.Bool.{Bool, true, false, ◌||◌}
use Prim.Native.Nat.{ℕ, ◌*◌, ◌≤◌, ◌<◌}
use native.Mathlib.Omega.{arith}
use lib.ListN.{length}
use Rattle.rows.specs.Rows.{word}
use Rattle.without_pid.specs.Pids.{without_pid}
use Rattle.without_pid.proofs.Rows.{each_has}
use Rattle.eit_state.specs.declared.Eit.{Eit}
use Rattle.eit_state.specs.State.{store, whole_of}
use Rattle.eit_state.proofs.Whole.{is_whole_means}
use Rattle.eit_pids.specs.Rows.{any_without, HeadsFit}

-- one law for the way out
pub either_without : (e : Eit) (heads schedule_heads : List ℕ) (a b : Bool) → a ≡ without_pid heads e.sets.used → b ≡ without_pid schedule_heads e.schedules
    → (a || b) ≡ any_without e heads schedule_heads
unfolding any_without
either_without e heads schedule_heads a b p q = rw (p, q)

-- a store that is whole has heads for its rows in use
pub heads_fit : (e : Eit) (heads slots cells schedule_heads units : List ℕ) (b : Bool) → b ≡ whole_of (store e heads slots cells schedule_heads units) → b ≡ true → HeadsFit e heads schedule_heads
heads_fit e heads slots cells schedule_heads units b q t =
    let w = is_whole_means e heads slots cells schedule_heads units b q t in
    let v = w.sets in
    record { sets = omega arith; schedules = omega arith }

-- each set and each schedule in use has a PID: the test is false
pub each_with : (e : Eit) (heads schedule_heads : List ℕ) → ((i : ℕ) → i < e.sets.used → word heads i 0 ≡ 8192 → ⊥) → ((i : ℕ) → i < e.schedules → word schedule_heads i 0 ≡ 8192 → ⊥)
    → any_without e heads schedule_heads ≡ false
unfolding any_without
each_with e heads schedule_heads f g = rw (each_has heads e.sets.used f, each_has schedule_heads e.schedules g)

-- Request 2026-10 over histories: at no call of any history does a section come to one of the two branches, and the key limit is the one of the opening.
-- Assumes nothing.
use mathlib.Core.Path.{◌≡◌, refl, ◌∙◌}
use mathlib.Core.List.{List, [], ◌∷◌}
use Prim.Native.Nat.{ℕ}
use Rattle.laws.specs.Runs.{store_after}
use Rattle.std.specs.Prelude.{Option}
use Rattle.arrivals.specs.declared.Arrival.{Arrival}
use Rattle.eit_state.specs.State.{Store}
use Rattle.promises_dead.specs.Dead.{Reaches, BelowItsKind, FullAndEmpty}
use Rattle.promises_dead.proofs.Dead.{never_below, never_empty_anywhere, limit_stays_push, limit_stays_drop, limit_stays_clear}
use Rattle.ties_eit.specs.View.{Given, clears, drops, section, acts}

module _ (s : Store) (calls : List Given) (input : ℕ) (pid : Option ℕ) (bytes : List ℕ) (a : Arrival) where
  pub never_below_ever : Reaches (store_after acts s calls) input pid bytes a → BelowItsKind a → ⊥
  never_below_ever = never_below (store_after acts s calls) input pid bytes a

  pub never_empty_ever : Reaches (store_after acts s calls) input pid bytes a → FullAndEmpty (store_after acts s calls) → ⊥
  never_empty_ever = never_empty_anywhere (store_after acts s calls) input pid bytes a

acts_limit : (s : Store) (i : Given) → (acts s i).eit.sets.limit ≡ s.eit.sets.limit
unfolding acts
acts_limit s clears = limit_stays_clear s
acts_limit s (drops f) = limit_stays_drop s f
acts_limit s (section input pid bytes) = limit_stays_push s input pid bytes

pub limit_stays_ever : (calls : List Given) (s : Store) → (store_after acts s calls).eit.sets.limit ≡ s.eit.sets.limit
unfolding store_after
limit_stays_ever [] s = refl
limit_stays_ever (i ∷ is) s = limit_stays_ever is (acts s i) ∙ acts_limit s i

-- One law for each way out of opening and clearing, and for the clock.
-- Assumes nothing.
use mathlib.Core.Path.{◌≡◌}
use mathlib.Core.Bool.{Bool, true, false}
use Prim.Native.Nat.{ℕ}
use Rattle.answers.specs.declared.Refusal.TheVariants as refusal
use Rattle.std.specs.Prelude.{Ok, Err}
use Rattle.store.specs.declared.Sets.{Sets}
use Rattle.store.specs.Store.{risen_sets}
use Rattle.eit_state.specs.declared.Eit.{Eit}
use Rattle.eit_state.specs.declared.Turned.{Turned}
use Rattle.eit_state.specs.State.{with_sets, risen_eit, with_schedules, settings_fit, opened_as, cleared_as}

module _ (b : Bool) (e : Eit) (heads slots cells schedule_heads units : ℕ) (q : b ≡ settings_fit e heads slots cells schedule_heads units) where
  pub opened_yes : b ≡ true → ◌≡◌ {A = Turned} (record { answer = Ok tt; eit = e }) (opened_as (settings_fit e heads slots cells schedule_heads units) e)
  opened_yes t = rw (← q, t)

  pub opened_no : b ≡ false → ◌≡◌ {A = Turned} (record { answer = Err refusal.TooLittle; eit = e }) (opened_as (settings_fit e heads slots cells schedule_heads units) e)
  opened_no t = rw (← q, t)

module _ (b : Bool) (e : Eit) where
  pub cleared_yes : (e' e'' : Eit) → b ≡ true → e' ≡ with_sets e 0 e.sets.evictions → e'' ≡ with_schedules e' 0 e.schedule_evictions
      → ◌≡◌ {A = Turned} (record { answer = Ok tt; eit = e'' }) (cleared_as b e)
  cleared_yes e' e'' t f g = rw (t, g, f)

  pub cleared_no : b ≡ false → ◌≡◌ {A = Turned} (record { answer = Err refusal.NotWhole; eit = e }) (cleared_as b e)
  cleared_no t = rw t

pub rises : (e : Eit) (s : Sets) → s ≡ risen_sets e.sets → ◌≡◌ {A = Eit} (record { sets = s; schedules = e.schedules; schedule_evictions = e.schedule_evictions }) (risen_eit e)
rises e s q = rw q

-- One law for each way out.
-- Assumes nothing.
use mathlib.Core.Path.{◌≡◌, sym, ◌∙◌}
use mathlib.Core.List.{List}
use mathlib.Core.Bool.{Bool, true, false}
use Prim.Native.Nat.{ℕ, ◌<◌}
use Rattle.answers.specs.declared.Refusal.TheVariants as refusal
use Rattle.std.specs.Prelude.{Option, Result, Ok, Err}
use Rattle.arrivals.specs.declared.Arrival.{Arrival}
use Rattle.answers.specs.declared.Refusal.{Refusal}
use Rattle.arrivals.specs.Arrivals.{eit_arrival, EitTaken}
use Rattle.eit_state.specs.declared.Eit.{Eit}
use Rattle.eit_state.specs.State.{store, whole_of, counters_full}
use Rattle.eit_state.proofs.Whole.{whole_store, can_count}
use Rattle.eit_pids.specs.Rows.{any_without}
use Rattle.eit_drop.specs.declared.Filter.{Filter}
use Rattle.filter.specs.declared.Fields.{Fields}
use Rattle.eit_drop.specs.Drop.{drop_wanted}
use Rattle.eit_admit.specs.Admitting.{admitted, Admitted, drop_of, DropOk}

module _ (e : Eit) (heads slots cells schedule_heads units : List ℕ) (input : ℕ) (pid : Option ℕ) (bytes : List ℕ) (b : Bool) (q : b ≡ whole_of (store e heads slots cells schedule_heads units)) where
  pub admit_broken : b ≡ false → Err refusal.NotWhole ≡ admitted (store e heads slots cells schedule_heads units) input pid bytes
  unfolding admitted
  admit_broken t = rw (← q, t)

  module _ (t : b ≡ true) (full : Bool) (g : full ≡ counters_full e) where
    pub admit_full : full ≡ true → Err refusal.CounterFull ≡ admitted (store e heads slots cells schedule_heads units) input pid bytes
    unfolding admitted
    admit_full h = rw (← q, t, ← g, h)

    module _ (h : full ≡ false) (w : Bool) (o : w ≡ any_without e heads schedule_heads) where
      pub admit_without : w ≡ true → Err refusal.NoPid ≡ admitted (store e heads slots cells schedule_heads units) input pid bytes
      unfolding admitted
      admit_without v = rw (← q, t, ← g, h, ← o, v)

      pub admit_read : (a : Result Arrival Refusal) → w ≡ false → a ≡ eit_arrival input pid bytes → a ≡ admitted (store e heads slots cells schedule_heads units) input pid bytes
      unfolding admitted
      admit_read a v k = rw (← q, t, ← g, h, ← o, v) k

    pub admit_may : (a : Result Arrival Refusal) → full ≡ false → e.sets.evictions < 18446744073709551616 → e.schedule_evictions < 18446744073709551616 → EitTaken bytes a
        → Admitted (store e heads slots cells schedule_heads units) a
    admit_may (Err r) h m n o = tt
    admit_may (Ok a) h m n o = record { whole = whole_store (store e heads slots cells schedule_heads units) (sym q ∙ t); numbered = o.numbered; counts = can_count e full g h m n }

module _ (e : Eit) (heads slots cells schedule_heads units : List ℕ) (f : Filter) (b : Bool) (q : b ≡ whole_of (store e heads slots cells schedule_heads units)) where
  pub drop_broken : b ≡ false → Err refusal.NotWhole ≡ drop_of (store e heads slots cells schedule_heads units) f
  unfolding drop_of
  drop_broken t = rw (← q, t)

  module _ (t : b ≡ true) (w : Bool) (o : w ≡ any_without e heads schedule_heads) where
    pub drop_without : w ≡ true → Err refusal.NoPid ≡ drop_of (store e heads slots cells schedule_heads units) f
    unfolding drop_of
    drop_without v = rw (← q, t, ← o, v)

    pub drop_read : (d : Result Fields Refusal) → w ≡ false → d ≡ drop_wanted f → d ≡ drop_of (store e heads slots cells schedule_heads units) f
    unfolding drop_of
    drop_read d v g = rw (← q, t, ← o, v) g

  pub drop_may : (d : Result Fields Refusal) → b ≡ true → DropOk (store e heads slots cells schedule_heads units) d
  drop_may (Err r) t = tt
  drop_may (Ok x) t = whole_store (store e heads slots cells schedule_heads units) (sym q ∙ t)

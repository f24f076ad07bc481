-- One law for each way out of opening, clearing, dropping and pushing.
-- Assumes nothing.
use mathlib.Core.Path.{◌≡◌, refl, ap, ◌∙◌}
use mathlib.Core.List.{List}
use mathlib.Core.Bool.{Bool, true, false, cond}
use Prim.Native.Nat.{ℕ}
use lib.ListN.{length}
use Rattle.answers.specs.declared.Refusal.{Refusal}
use Rattle.answers.specs.declared.Refusal.TheVariants as refusal
use Rattle.std.specs.Prelude.{Option, Result, Ok, Err}
use Rattle.filter.specs.declared.Fields.{Fields}
use Rattle.arrivals.specs.Arrivals.{Numbered}
use Rattle.arrivals.specs.declared.Arrival.{Arrival}
use Rattle.eit_state.specs.declared.Eit.{Eit}
use Rattle.eit_state.specs.declared.Pushed.{Pushed}
use Rattle.eit_state.specs.State.{Store, store, Rows, rows, settings_fit, whole_of, Whole, RowsFit, CanCount, empty_eit, opened_as, cleared_as}
use Rattle.eit_state.proofs.Whole.{is_whole_room}
use Rattle.eit_pids.specs.Rows.{any_without}
use Rattle.eit_carry.specs.Carried.{step, pushed_whole}
use Rattle.eit_drop.specs.declared.Filter.{Filter}
use Rattle.eit_drop.specs.Drop.{matching_gone}
use Rattle.eit.specs.Store.{after, outcome_of, told_step, done, refused, opened_of, cleared_of, dropped_of, pushed_of, turned, pushed}
use Rattle.eit_state.specs.declared.Turned.{Turned}
use Rattle.eit_admit.specs.Admitting.{drop_of, admitted, Admission, Admitted, DropOk}

-- ---- opening and clearing

opened_told : (b : Bool) (e : Eit) (s : Store) → after (outcome_of (opened_as b e).answer) s ≡ after (cond b done (refused refusal.TooLittle)) s
opened_told true e s = refl
opened_told false e s = refl

module _ (e : Eit) (heads slots cells schedule_heads units : List ℕ) (r : Turned) where
  pub opened_done : r ≡ opened_as (settings_fit e (length heads) (length slots) (length cells) (length schedule_heads) (length units)) e
      → turned r heads slots cells schedule_heads units ≡ opened_of (store e heads slots cells schedule_heads units)
  unfolding opened_of
  opened_done q =
      rw q (opened_told (settings_fit e (length heads) (length slots) (length cells) (length schedule_heads) (length units)) e (store e heads slots cells schedule_heads units))

  pub cleared_broken : (b : Bool) → b ≡ whole_of (store e heads slots cells schedule_heads units) → b ≡ false → r ≡ cleared_as false e
      → turned r heads slots cells schedule_heads units ≡ cleared_of (store e heads slots cells schedule_heads units)
  unfolding cleared_of
  cleared_broken b p t q = rw (← p, t, q)

  pub cleared_done : (b w : Bool) → b ≡ whole_of (store e heads slots cells schedule_heads units) → b ≡ true → w ≡ any_without e heads schedule_heads → w ≡ false → r ≡ cleared_as true e
      → turned r heads slots cells schedule_heads units ≡ cleared_of (store e heads slots cells schedule_heads units)
  unfolding cleared_of
  cleared_done b w p t o v q = rw (← p, t, ← o, v, q)

pub cleared_without : (e : Eit) (heads slots cells schedule_heads units : List ℕ) (b w : Bool) → b ≡ whole_of (store e heads slots cells schedule_heads units) → b ≡ true
    → w ≡ any_without e heads schedule_heads → w ≡ true
    → after (refused refusal.NoPid) (store e heads slots cells schedule_heads units) ≡ cleared_of (store e heads slots cells schedule_heads units)
unfolding cleared_of
cleared_without e heads slots cells schedule_heads units b w p t o v = rw (← p, t, ← o, v)

-- ---- dropping

module _ (e : Eit) (heads slots cells schedule_heads units : List ℕ) (f : Filter) (d : Result Fields Refusal) (q : d ≡ drop_of (store e heads slots cells schedule_heads units) f) where
  pub dropped_refused : (r : Refusal) → d ≡ Err r → after (refused r) (store e heads slots cells schedule_heads units) ≡ dropped_of (store e heads slots cells schedule_heads units) f
  unfolding dropped_of
  dropped_refused r g = rw (← q, g)

  pub dropped_matching : (x : Fields) (e' : Eit) (h l t u : List ℕ) → d ≡ Ok x → rows e' h l t u ≡ matching_gone (rows e heads slots schedule_heads units) x
      → after done (store e' h l cells t u) ≡ dropped_of (store e heads slots cells schedule_heads units) f
  unfolding dropped_of
  dropped_matching x e' h l t u g k = ap (λ (r : Rows). after done (store r.eit r.heads r.slots cells r.schedule_heads r.units)) k ∙ rw (← q, g)

pub dropping_may : (e : Eit) (heads slots cells schedule_heads units : List ℕ) (d : Result Fields Refusal) (x : Fields) → DropOk (store e heads slots cells schedule_heads units) d → d ≡ Ok x
    → RowsFit (rows e heads slots schedule_heads units)
dropping_may e heads slots cells schedule_heads units d x o g = is_whole_room e heads slots cells schedule_heads units (rw g at o)

-- ---- pushing

module _ (e : Eit) (heads slots cells schedule_heads units : List ℕ) (input : ℕ) (pid : Option ℕ) (bytes : List ℕ) (v : Result Arrival Refusal) (q : v ≡ admitted (store e heads slots cells schedule_heads units) input pid bytes) where
  pub pushed_refused : (r : Refusal) → v ≡ Err r → after (refused r) (store e heads slots cells schedule_heads units) ≡ pushed_of (store e heads slots cells schedule_heads units) input pid bytes
  unfolding pushed_of
  pushed_refused r k = rw (← q, k)

  pub pushed_done : (a : Arrival) (r : Pushed) (h l c t u : List ℕ) → v ≡ Ok a → step r h l c t u ≡ pushed_whole (store e heads slots cells schedule_heads units) bytes a
      → pushed r h l c t u ≡ pushed_of (store e heads slots cells schedule_heads units) input pid bytes
  unfolding pushed_of
  pushed_done a r h l c t u k f = ap told_step f ∙ rw (← q, k)

-- what a section that was admitted may ask of the store
module _ (e : Eit) (heads slots cells schedule_heads units : List ℕ) (v : Result Arrival Refusal) (o : Admitted (store e heads slots cells schedule_heads units) v) (a : Arrival) (k : v ≡ Ok a) where
  admission : Admission (store e heads slots cells schedule_heads units) a
  admission = rw k at o

  pub admitted_whole : Whole (store e heads slots cells schedule_heads units)
  admitted_whole = admission.whole

  pub admitted_numbered : Numbered a.entry
  admitted_numbered = admission.numbered

  pub admitted_counts : CanCount e
  admitted_counts = admission.counts

-- One law for each way out of the drop by filter.
-- Assumes nothing.
use mathlib.Core.Path.{◌≡◌, refl, sym, ap, ◌∙◌}
use mathlib.Core.List.{List}
use Prim.Native.Nat.{ℕ, ◌*◌, ◌≤◌, ◌<◌}
use native.Mathlib.Omega.{arith}
use borrow.Author.Tests.{lt-ltb, le-ltb}
use lib.ListN.{length}
use Rattle.answers.specs.declared.Refusal.{Refusal}
use Rattle.answers.specs.declared.Refusal.TheVariants as refusal
use Rattle.section.specs.Ids.{pid_made}
use Rattle.section.specs.declared.ids.Pid.{Pid}
use Rattle.std.specs.Prelude.{Result, Ok, Err, Option, Some, None}
use Rattle.filter.specs.declared.WantedOrigin.{WantedOrigin}
use Rattle.filter.specs.declared.Fields.{Fields}
use Rattle.filter.specs.declared.Of.TheVariants as of
use Rattle.filter.specs.Drops.{rest, dropped_rows, Fits}
use Rattle.eit_state.specs.declared.Eit.{Eit}
use Rattle.eit_state.specs.State.{Rows, rows, with_sets, with_schedules, RowsFit}
use Rattle.eit_drop.specs.declared.WantedPid.{WantedPid}
use Rattle.eit_drop.specs.declared.WantedPid.TheVariants as wanted_pid
use Rattle.eit_drop.specs.declared.Filter.{Filter}
use Rattle.eit_drop.specs.Drop.{input_wanted, made_wanted, wanted_origin, fields_of, drop_from, drop_wanted, matching_gone}

module _ (input pid : Option ℕ) where
  pub input_any : input ≡ None → Ok (record { input = input; pid = pid }) ≡ input_wanted input pid
  input_any e = rw e

  pub input_exact : (v : ℕ) → input ≡ Some v → v < 16 → Ok (record { input = Some v; pid = pid }) ≡ input_wanted input pid
  input_exact v e h = rw (e, lt-ltb v 16 h)

  pub input_large : (v : ℕ) → input ≡ Some v → 16 ≤ v → Err refusal.BadInput ≡ input_wanted input pid
  input_large v e h = rw (e, le-ltb v 16 h)

pub wanted_one : (input : Option ℕ) (m : Result Pid Refusal) (p : Pid) (r : Result WantedOrigin Refusal) → m ≡ Ok p → r ≡ input_wanted input (Some p.0) → r ≡ made_wanted input m
wanted_one input m p r e g = rw e g

pub wanted_large : (input : Option ℕ) (m : Result Pid Refusal) → m ≡ Err refusal.BadPid → Err refusal.BadPid ≡ made_wanted input m
wanted_large input m e = rw e

pub wanted_without : (input : Option ℕ) (pid : WantedPid) → pid ≡ wanted_pid.Without → Err refusal.NoPid ≡ wanted_origin input pid
wanted_without input pid e = rw e

module _ (input : Option ℕ) (pid : WantedPid) (r : Result WantedOrigin Refusal) where
  pub wanted_any : pid ≡ wanted_pid.Any → r ≡ input_wanted input None → r ≡ wanted_origin input pid
  wanted_any e g = rw e g

  pub wanted_exactly : (v : ℕ) (m : Result Pid Refusal) → pid ≡ wanted_pid.Exactly v → m ≡ pid_made v → r ≡ made_wanted input m → r ≡ wanted_origin input pid
  wanted_exactly v m e f g = rw (e, ← f) g

module _ (f : Filter) (p : Result WantedOrigin Refusal) (e : p ≡ wanted_origin f.input f.pid) where
  pub filter_refused : (r : Refusal) → p ≡ Err r → Err r ≡ drop_wanted f
  filter_refused r k = rw (← e, k)

  pub filter_matching : (w : WantedOrigin) (x : Fields) → p ≡ Ok w → x ≡ fields_of w f → Ok x ≡ drop_wanted f
  filter_matching w x k m = rw (← e, k, ← m)

module _ (e : Eit) (h l t u : List ℕ) (o : RowsFit (rows e h l t u)) where
  pub sets_fit : Fits of.Sets h l e.sets.used
  sets_fit = record { heads_long = omega arith; words_long = omega arith }

  pub schedules_fit_lem : Fits of.Schedules t u e.schedules
  schedules_fit_lem = record { heads_long = omega arith; words_long = omega arith }

pub matching_left : (e : Eit) (f : Fields) (h l t u h' l' t' u' : List ℕ) (used schedules : ℕ) (e' e'' : Eit) → rest h' l' used ≡ dropped_rows of.Sets f e.sets.used (rest h l e.sets.used)
    → rest t' u' schedules ≡ dropped_rows of.Schedules f e.schedules (rest t u e.schedules) → e' ≡ with_sets e used e.sets.evictions → e'' ≡ with_schedules e' schedules e.schedule_evictions
    → rows e'' h' l' t' u' ≡ matching_gone (rows e h l t u) f
unfolding matching_gone
matching_left e f h l t u h' l' t' u' used schedules e' e'' p q a b =
    ap (λ (x : Eit). rows x h' l' t' u') (b ∙ ap (λ (x : Eit). with_schedules x schedules e.schedule_evictions) a)
    ∙ (λ i. rows (with_schedules (with_sets e (p i).used e.sets.evictions) (q i).used e.schedule_evictions) (p i).heads (p i).words (q i).heads (q i).words)

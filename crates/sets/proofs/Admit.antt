-- Pushing: one law for each way out.
-- Assumes nothing.
use mathlib.Core.Path.{◌≡◌, subst}
use mathlib.Core.List.{List}
use Prim.Native.Nat.{ℕ}
use Rattle.answers.specs.declared.Refusal.{Refusal}
use Rattle.std.specs.Prelude.{Option, Result, Ok, Err}
use Rattle.rows.specs.declared.Entry.{Entry}
use Rattle.store.specs.Store.{Store}
use Rattle.arrivals.specs.Arrivals.{Taken}
use Rattle.sets_plan.specs.Plan.{Ready}
use Rattle.sets_settle.specs.Settle.{SetsAfter, after_push}
use Rattle.sets_settle.specs.declared.PushAnswer.TheVariants.{Refused}
use Rattle.sets_push.specs.Pushing.{whole_pushed, admitted, AdmittedOk}
use Rattle.sets.specs.Store.{pushed_of}

pub admitted_arrived : (s : Store) (bytes : List ℕ) (a : Result Entry Refusal) (e : Entry) → a ≡ Ok e → AdmittedOk s bytes a → Ready s × Taken bytes e
admitted_arrived s bytes a e q o = subst (AdmittedOk s bytes) q o

module _ (s : Store) (input : ℕ) (pid : Option ℕ) (bytes : List ℕ) (a : Result Entry Refusal) (e : a ≡ admitted s input pid bytes) where
  pub pushed_refused : (r : Refusal) → a ≡ Err r → after_push (record { answer = Refused r; sets = s.sets }) s.heads s.slots s.cells ≡ pushed_of s input pid bytes
  unfolding pushed_of
  pushed_refused r q = rw (← e, q)

  pub pushed_arrived : (x : Entry) (k : SetsAfter) → a ≡ Ok x → k ≡ whole_pushed s x bytes → k ≡ pushed_of s input pid bytes
  unfolding pushed_of
  pushed_arrived x k q f = rw (← e, q) f

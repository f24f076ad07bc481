-- One law for each way out.
-- Assumes nothing.
use mathlib.Core.Path.{◌≡◌, refl}
use mathlib.Core.List.{List}
use mathlib.Core.Bool.{Bool, true, false}
use Prim.Native.Nat.{ℕ}
use Rattle.std.specs.Prelude.{Result, IfOk, Option, Some, None}
use Rattle.clocks.specs.Clocks.{clock_of}
use Rattle.clocks.specs.declared.Stamp.{Stamp}
use Rattle.counts_times.specs.Due.{moment_of, is_due, last_at}
use Rattle.counts_times.specs.declared.Last.{Last}
use Rattle.counts_tell.specs.Told.{last_told, last_read}

module _ (l : Last) (i n : ℕ) (s : Stamp) (e : n ≡ moment_of s) (b : Bool) (f : b ≡ is_due l n i) where
  pub due : (r : Last) → b ≡ true → r ≡ last_at n → r ≡ last_told l i s
  unfolding last_told
  due r q g = rw (← e, ← f, q) g

  pub not_due : b ≡ false → l ≡ last_told l i s
  unfolding last_told
  not_due q = rw (← e, ← f, q)

module _ (l : Last) (i : ℕ) (b : List ℕ) (k : Option Stamp) (e : k ≡ clock_of b) where
  pub no_clock : k ≡ None → l ≡ last_read l i b
  unfolding last_read
  no_clock q = rw (← e, q)

  pub a_clock : (s : Stamp) (r : Last) → k ≡ Some s → r ≡ last_told l i s → r ≡ last_read l i b
  unfolding last_read
  a_clock s r q g = rw (← e, q) g

  pub told_clock : {E : Type 0} (s : Stamp) (r : Result Last E) → k ≡ Some s → IfOk r (λ x. x ≡ last_told l i s) → IfOk r (λ x. x ≡ last_read l i b)
  unfolding last_read
  told_clock s r q g = rw (← e, q) g

-- One law for each way out.
-- Assumes nothing.
use mathlib.Core.Path.{◌≡◌, refl}
use mathlib.Core.List.{List}
use Prim.Native.Nat.{ℕ}
use borrow.Author.Tests.{eq-eqb, ne_eqb}
use Rattle.demux_state.specs.State.{said_of, number_of}
use Rattle.demux_state.specs.declared.Answer.{Answer}
use Rattle.tallies.specs.Columns.{counted_in}
use Rattle.counts_step.specs.Step.{no_buffer_counted}

module _ (t : List ℕ) (a : Answer) (n : ℕ) (e : n ≡ number_of (said_of a)) where
  pub no_buffer : (r : List ℕ) → n ≡ 43 → r ≡ counted_in t 0 → r ≡ no_buffer_counted t a
  unfolding no_buffer_counted
  no_buffer r h f = rw (← e, eq-eqb n 43 h) f

  pub other : (n ≡ 43 → ⊥) → t ≡ no_buffer_counted t a
  unfolding no_buffer_counted
  other h = rw (← e, ne_eqb n 43 h)

-- PIDs of a card by their numbers.
-- Assumes nothing.
use mathlib.Core.Path.{◌≡◌, refl, sym, ap, ◌∙◌}
use mathlib.Core.Logic.{◌≢◌, by_cases}
use mathlib.Core.Bool.{Bool, true, false, cond}
use mathlib.Core.Option.{Option}
use Prim.Native.Nat.{ℕ, ◌+◌, ◌*◌, ◌/◌, ◌%◌, ◌<◌}
use native.Mathlib.Decide.{ℕ_discrete}
use native.Mathlib.Omega.{arith}
use lib.Dec.{eqb}
use borrow.Author.Tests.{eq-eqb, ne_eqb, eqb-true, eqb-false}
use Rattle.transport.specs.Receiver.{Stream, Streams, with_stream}
use Rattle.ties_demux.specs.Rules.{on_card}

pub its_input : (i p : ℕ) → p < 8192 → on_card i p / 8192 ≡ i
its_input i p h = omega arith

pub its_pid : (i p : ℕ) → p < 8192 → on_card i p % 8192 ≡ p
its_pid i p h = omega arith

-- the streams of a card with those of input i replaced
abbrev pub with_input : ℕ → Streams → Streams → Streams
with_input i own f n = cond (eqb (n / 8192) i) (own (n % 8192)) (f n)

-- one PID of that input
pub put_input : (i p : ℕ) → p < 8192 → (x : Option Stream) (own f : Streams) → with_input i (with_stream p x own) f ≡ with_stream (on_card i p) x (with_input i own f)
put_input i p h x own f = λ j n. each n j
  where
    each : (n : ℕ) → cond (eqb (n / 8192) i) (cond (eqb (n % 8192) p) x (own (n % 8192))) (f n) ≡ cond (eqb n (on_card i p)) x (cond (eqb (n / 8192) i) (own (n % 8192)) (f n))
    each n =
        by_cases (ℕ_discrete (n / 8192) i)
        (λ (e : n / 8192 ≡ i). by_cases (ℕ_discrete (n % 8192) p)
        (λ (d : n % 8192 ≡ p). rw (eq-eqb (n / 8192) i e, eq-eqb (n % 8192) p d, eq-eqb n (on_card i p) (omega arith)) refl)
        (λ (d : ¬ (n % 8192 ≡ p)). rw (eq-eqb (n / 8192) i e, ne_eqb (n % 8192) p d, ne_eqb n (on_card i p) (λ (z : n ≡ on_card i p). d (omega arith))) refl))
        (λ (e : ¬ (n / 8192 ≡ i)). rw (ne_eqb (n / 8192) i e, ne_eqb n (on_card i p) (λ (z : n ≡ on_card i p). e (omega arith))) refl)

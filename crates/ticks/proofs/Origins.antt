-- The words of an origin show it, and read back where they have a PID.
-- Assumes nothing.
use Prim.Native.Nat.{ℕ, ◌<◌}
use mathlib.Core.Path.{◌≡◌, refl, sym, ap, subst}
use mathlib.Core.Bool.{Bool, true, false, cond}
use native.Mathlib.Omega.{arith}
use borrow.Author.Tests.{eq-eqb, ne_eqb}
use lib.Dec.{eqb}
use Rattle.rules_shared.specs.Same.{Origin}
use Rattle.rows.specs.declared.Origin.{Origin as Words}
use Rattle.ticks.specs.Origins.{origin_shown, origin_words}

pub origin_reads : (w : Words) → (w.pid ≡ 8192 → ⊥) → origin_words (origin_shown w) ≡ w
unfolding origin_shown
origin_reads w n = rw (ne_eqb w.pid 8192 n)

-- a PID shows itself
pub shown_pid : (input p : ℕ) → p < 8192 → origin_shown (record { input = input; pid = p }) ≡ record { input = input; pid = p }
unfolding origin_shown
shown_pid input p l = rw (ne_eqb p 8192 (λ (t : p ≡ 8192). absurd (omega arith)))

-- words that read back are not those of no PID
pub reads_pid : (w : Words) → origin_words (origin_shown w) ≡ w → w.pid ≡ 8192 → ⊥
unfolding origin_shown
reads_pid w e z =
    let p : cond (eqb w.pid 8192) 8193 w.pid ≡ w.pid = ap (λ (v : Words). v.pid) e in
    let q : 8193 ≡ w.pid = subst (λ (b : Bool). cond b 8193 w.pid ≡ w.pid) (eq-eqb w.pid 8192 z) p in
    omega (arith, q, z)

-- The row that `oldest_of` gives is in use, and no row in use was touched before it.
-- Assumes nothing.
use mathlib.Core.Path.{◌≡◌, refl}
use mathlib.Core.Logic.{◌≢◌}
use mathlib.Core.List.{List}
use mathlib.Core.Bool.{Bool, true, false, cond}
use Prim.Native.Nat.{ℕ, zero, suc, ◌≤◌, ◌<◌}
use native.Mathlib.Nat.{not-suc-le-zero}
use native.Mathlib.Decide.{ℕ_discrete}
use native.Mathlib.Omega.{arith}
use borrow.Author.Tests.{ltb-true, ltb-false}
use lib.Dec.{ltb}
use Rattle.rows.specs.Rows.{tick_of, earlier_of, oldest_of}

elder_least : (heads : List ℕ) (b n : ℕ) → (tick_of heads (earlier_of heads b n) ≤ tick_of heads b) × (tick_of heads (earlier_of heads b n) ≤ tick_of heads n)
unfolding earlier_of
elder_least heads b n = go (ltb (tick_of heads n) (tick_of heads b)) refl
  where
    go : (t : Bool) → ltb (tick_of heads n) (tick_of heads b) ≡ t → (tick_of heads (cond t n b) ≤ tick_of heads b) × (tick_of heads (cond t n b) ≤ tick_of heads n)
    go true e = let l : tick_of heads n < tick_of heads b = ltb-true _ _ e in (omega arith, omega arith)
    go false e = (omega arith, ltb-false _ _ e)

-- "the least recently touched": no row in use was touched before it
pub oldest_least : (heads : List ℕ) (n j : ℕ) → j < n → tick_of heads (oldest_of heads n) ≤ tick_of heads j
unfolding oldest_of
oldest_least heads zero j h = absurd (not-suc-le-zero h)
oldest_least heads (suc n) j h = go (ℕ_discrete j n) (λ q. oldest_least heads n j q) (elder_least heads (oldest_of heads n) n)
  where
    o : ℕ
    o = oldest_of heads n

    go : Dec (j ≡ n) → (j < n → tick_of heads o ≤ tick_of heads j) → (tick_of heads (earlier_of heads o n) ≤ tick_of heads o) × (tick_of heads (earlier_of heads o n) ≤ tick_of heads n)
        → tick_of heads (earlier_of heads o n) ≤ tick_of heads j
    go (yes q) ih l = rw q l.1
    go (no d) ih l = let k = ih (omega arith) in omega (arith, l.0)

pub oldest_below : (heads : List ℕ) (n : ℕ) → 0 < n → oldest_of heads n < n
unfolding oldest_of earlier_of
oldest_below heads zero h = h
oldest_below heads (suc n) h = go (ltb (tick_of heads n) (tick_of heads (oldest_of heads n))) (ℕ_discrete n 0) (λ l. oldest_below heads n l)
  where
    go : (b : Bool) → Dec (n ≡ 0) → (0 < n → oldest_of heads n < n) → cond b n (oldest_of heads n) < suc n
    go true d ih = omega arith
    go false (yes q) ih = rw q (omega arith)
    go false (no ne) ih = let z : n ≢ 0 = ne in let l = ih (omega arith) in omega arith

-- What is read from six digits and from a day number, one law for each way out.
-- Assumes nothing.
use borrow.Author.Tests.{le-leb, lt-leb, lt-ltb, le-ltb}
use mathlib.Core.Path.{◌≡◌, refl, sym}
use mathlib.Core.Bool.{Bool, true, false, ◌&&◌}
use Prim.Native.Nat.{ℕ, ◌+◌, ◌*◌, ◌-◌, ◌/◌, ◌≤◌, ◌<◌}
use native.Mathlib.Omega.{arith}
use Rattle.std.specs.Prelude.{Some, None}
use Rattle.times.specs.declared.Seconds.{Seconds}
use Rattle.times.specs.declared.Calendar.{Calendar}
use Rattle.times.specs.Times.{is_bcd, bcd_of, time_of, years_of, days_of, months_of, day_in_month, carry_for, carry_of, date_of}

module _ (h m s : ℕ) (a b c : Bool) (e : a ≡ is_bcd h) (f : b ≡ is_bcd m) (g : c ≡ is_bcd s) where
  pub time_at : ((a && b) && c) ≡ true → (x y z : ℕ) → x ≡ bcd_of h → y ≡ bcd_of m → z ≡ bcd_of s → Some (record { 0 = x * 3600 + y * 60 + z }) ≡ time_of h m s
  unfolding time_of
  time_at t x y z p q r = rw (p, q, r, sym e, sym f, sym g, t) refl

  pub time_none : ((a && b) && c) ≡ false → None ≡ time_of h m s
  unfolding time_of
  time_none t = rw (sym e, sym f, sym g, t) refl

pub carry_one : (m : ℕ) → 14 ≤ m → (1 ≡ carry_for m) × (1 ≤ 1) × (14 ≤ m)
carry_one m h = (rw (le-leb 14 m h) refl, omega arith, h)

pub carry_none : (m : ℕ) → m < 14 → (0 ≡ carry_for m) × (0 ≤ 1) × (0 ≤ m)
carry_none m h = (rw (lt-leb 14 m h) refl, omega arith, omega arith)

pub date_before : (mjd : ℕ) → mjd < 15079 → None ≡ date_of mjd
unfolding date_of
date_before mjd h = rw (lt-ltb mjd 15079 h) refl

pub date_on : (mjd k : ℕ) → 15079 ≤ mjd → k ≡ carry_of mjd → Some (record { year = 1900 + years_of mjd + k; month = months_of mjd - 1 - 12 * k; day = day_in_month mjd }) ≡ date_of mjd
unfolding date_of
date_on mjd k h e = rw (e, le-ltb mjd 15079 h) refl

-- One law for each way out, and examples.
-- Assumes nothing.
use mathlib.Core.Path.{◌≡◌, refl, sym, ◌∙◌}
use mathlib.Core.List.{List, [], ◌∷◌}
use mathlib.Core.Bool.{Bool, true, false, cond, ◌||◌, true≢false}
use Prim.Native.Nat.{ℕ, ◌≤◌, ◌<◌}
use borrow.Author.Tests.{lt-ltb, le-ltb}
use lib.Dec.{eqb}
use lib.ListN.{length, get_or}
use Rattle.times.specs.Times.{time_of, day_of, date_of}
use Rattle.times.specs.declared.Day.{Day}
use Rattle.times.specs.declared.Seconds.{Seconds}
use Rattle.times.specs.declared.Calendar.{Calendar}
use Rattle.std.specs.Prelude.{Option, Some, None}
use Rattle.clocks.specs.declared.Stamp.{Stamp}
use Rattle.clocks.specs.Clocks.{is_clock, stamped_of, clock_of}

pub too_short : (s : List ℕ) → length s < 8 → false ≡ is_clock s
unfolding is_clock
too_short s h = rw (lt-ltb (length s) 8 h)

pub by_table : (s : List ℕ) → 8 ≤ length s → (eqb (get_or s 0 0) 0x70 || eqb (get_or s 0 0) 0x73) ≡ is_clock s
unfolding is_clock
by_table s h = rw (le-ltb (length s) 8 h)

pub never : (P : Type 0) → false ≡ true → P
never P e = absurd (true≢false (sym e))

module _ (d : Day) (h m s : ℕ) (x : Option Calendar) (e : x ≡ date_of d.0) where
  pub no_date : x ≡ None → None ≡ stamped_of d h m s
  unfolding stamped_of
  no_date q = rw (← e, q)

  module _ (c : Calendar) (q : x ≡ Some c) (t : Option Seconds) (f : t ≡ time_of h m s) where
    pub no_time : t ≡ None → None ≡ stamped_of d h m s
    unfolding stamped_of
    no_time r = rw (← e, q, ← f, r)

    pub is_time : (n : Seconds) → t ≡ Some n → Some (record { day = d.0; hours = h; minutes = m; seconds = s }) ≡ stamped_of d h m s
    unfolding stamped_of
    is_time n r = rw (← e, q, ← f, r)

module _ (s : List ℕ) (b : Bool) (e : b ≡ is_clock s) where
  pub no_clock : b ≡ false → None ≡ clock_of s
  unfolding clock_of
  no_clock t = rw (← e, t)

  pub is_clock_lem : (d : Day) (k : Option Stamp) → b ≡ true → d ≡ day_of (get_or s 3 0) (get_or s 4 0) → k ≡ stamped_of d (get_or s 5 0) (get_or s 6 0) (get_or s 7 0) → k ≡ clock_of s
  unfolding clock_of
  is_clock_lem d k t f g = rw (← e, t, ← f) g

-- 1993-10-13, 12:45:00 (EN 300 468, 5.2.5, the example of UTC_time)
pub example : clock_of (0x70 ∷ 0x70 ∷ 0x05 ∷ 0xC0 ∷ 0x79 ∷ 0x12 ∷ 0x45 ∷ 0x00 ∷ []) ≡ Some (record { day = 49273; hours = 0x12; minutes = 0x45; seconds = 0 })
unfolding clock_of is_clock stamped_of date_of time_of
example = refl

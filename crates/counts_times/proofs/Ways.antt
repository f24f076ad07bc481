-- One law for each way out, and an example.
-- Assumes nothing.
use mathlib.Core.Path.{◌≡◌, refl}
use mathlib.Core.Bool.{true, false}
use Prim.Native.Nat.{ℕ, ◌-◌, ◌≤◌, ◌<◌}
use borrow.Author.Tests.{lt-ltb, le-ltb}
use lib.Dec.{leb}
use Rattle.times.specs.Times.{time_of}
use Rattle.times.specs.declared.Seconds.{Seconds}
use Rattle.std.specs.Prelude.{Option, Some, None}
use Rattle.counts_times.specs.declared.Last.{Last}
use Rattle.counts_times.specs.Due.{seconds_at, moment_of, is_due}

module _ (h m s : ℕ) (t : Option Seconds) (e : t ≡ time_of h m s) where
  pub is_time : (n : Seconds) → t ≡ Some n → n.0 ≡ seconds_at h m s
  is_time n q = rw (← e, q)

  pub no_time : t ≡ None → 0 ≡ seconds_at h m s
  no_time q = rw (← e, q)

module _ (l : Last) (n k : ℕ) where
  pub first : l.any ≡ false → true ≡ is_due l n k
  first e = rw e

  module _ (e : l.any ≡ true) where
    pub backwards : n < l.at → true ≡ is_due l n k
    backwards h = rw (e, lt-ltb n l.at h)

    pub forwards : l.at ≤ n → leb k (n - l.at) ≡ is_due l n k
    forwards h = rw (e, le-ltb n l.at h)

-- 1993-10-13, 12:45:00 (EN 300 468, 5.2.5, the example of UTC_time)
pub example : moment_of (record { day = 49273; hours = 0x12; minutes = 0x45; seconds = 0 }) ≡ 4257233100
unfolding time_of
example = refl

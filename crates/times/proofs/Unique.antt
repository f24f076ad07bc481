-- Each promise names one result.
-- Assumes nothing.
use mathlib.Core.Path.{◌≡◌, sym, ◌∙◌}
use Prim.Native.Nat.{ℕ}
use Rattle.times.specs.declared.Day.{Day}
use Rattle.std.specs.Prelude.{Option}
use Rattle.times.specs.declared.Seconds.{Seconds}
use Rattle.times.specs.declared.Calendar.{Calendar}
use Rattle.times.specs.Times.{time_of, day_of, date_of}

pub unique_time_of : (h m s : ℕ) (r q : Option Seconds) → r ≡ time_of h m s → q ≡ time_of h m s → r ≡ q
unique_time_of h m s r q e f = e ∙ sym f

pub unique_day_of : (a b : ℕ) (r q : Day) → r ≡ day_of a b → q ≡ day_of a b → r ≡ q
unique_day_of a b r q e f = e ∙ sym f

pub unique_date_of : (d : ℕ) (r q : Option Calendar) → r ≡ date_of d → q ≡ date_of d → r ≡ q
unique_date_of d r q e f = e ∙ sym f

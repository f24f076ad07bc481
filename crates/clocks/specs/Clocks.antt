-- The clock that a stream carries (EN 300 468, 5.2.5: a TDT has table_id 0x70, a TOT 0x73, and UTC_time in bytes 3 to 7: a modified Julian day in 16 bits and six
-- BCD digits). `cond test a b` is a where the test is true, else b.
-- Assumes nothing.
use Rattle.std.specs.Prelude.{ℕ, List, Bool, cond, false, ◌||◌, eqb, ltb, length, get_or, Option, Some, None}
use Rattle.times.specs.Times.{time_of, day_of, date_of}
use Rattle.times.specs.declared.Day.{Day}
use Rattle.times.specs.declared.Seconds.{Seconds}
use Rattle.times.specs.declared.Calendar.{Calendar}
use Rattle.clocks.specs.declared.Stamp.{Stamp}

-- a TDT or a TOT that has its time
unfoldable pub is_clock : List ℕ → Bool
is_clock s = cond (ltb (length s) 8) false (eqb (get_or s 0 0) 0x70 || eqb (get_or s 0 0) 0x73)

-- a digit above 9: no time
abbrev pub timed : Option Seconds → Stamp → Option Stamp
timed (Some n) st = Some st
timed None st = None

-- a day without a date: none either
abbrev pub dated : Option Calendar → Option Stamp → Option Stamp
dated (Some c) k = k
dated None k = None

unfoldable pub stamped_of : Day → (hours minutes seconds : ℕ) → Option Stamp
stamped_of d hours minutes seconds = dated (date_of d.0) (timed (time_of hours minutes seconds) (record { day = d.0; hours = hours; minutes = minutes; seconds = seconds }))

unfoldable pub clock_of : List ℕ → Option Stamp
clock_of s = cond (is_clock s) (stamped_of (day_of (get_or s 3 0) (get_or s 4 0)) (get_or s 5 0) (get_or s 6 0) (get_or s 7 0)) None

-- When `counts` writes a line: at the first time that the stream tells, at one that goes backwards, and at one that lies an interval or more behind that of the last
-- line. A time is a number of seconds: 86,400 for each day of its modified Julian day, and those of its six digits (EN 300 468, 5.2.5). `cond test a b` is a where
-- the test is true, else b.
-- Assumes nothing.
use Rattle.std.specs.Prelude.{ℕ, ◌+◌, ◌*◌, ◌-◌, Bool, cond, true, false, leb, ltb, Option, Some, None}
use Rattle.times.specs.Times.{time_of}
use Rattle.times.specs.declared.Seconds.{Seconds}
use Rattle.clocks.specs.declared.Stamp.{Stamp}
use Rattle.counts_times.specs.declared.Last.{Last}

abbrev pub in_seconds : Option Seconds → ℕ
in_seconds (Some s) = s.0
in_seconds None = 0

abbrev pub seconds_at : (hours minutes seconds : ℕ) → ℕ
seconds_at hours minutes seconds = in_seconds (time_of hours minutes seconds)

abbrev pub moment_of : Stamp → ℕ
moment_of s = s.day * 86400 + seconds_at s.hours s.minutes s.seconds

abbrev pub no_line : Last
no_line = record { any = false; at = 0 }

abbrev pub last_at : (second : ℕ) → Last
last_at second = record { any = true; at = second }

abbrev pub is_due : Last → (second interval : ℕ) → Bool
is_due last second interval = cond last.any (cond (ltb second last.at) true (leb interval (second - last.at))) true

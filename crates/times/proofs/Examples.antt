-- Annex C's own example, the ends of its formulas, and digits above 9 in each place.
-- Assumes nothing.
use mathlib.Core.Path.{◌≡◌, refl}
use Prim.Native.Nat.{ℕ}
use Rattle.std.specs.Prelude.{Option, Some, None}
use Rattle.times.specs.declared.Seconds.{Seconds}
use Rattle.times.specs.declared.Calendar.{Calendar}
use Rattle.times.specs.Times.{time_of, date_of}

abbrev seconds : ℕ → Option Seconds
seconds n = Some (record { 0 = n })

abbrev on : (year month day : ℕ) → Option Calendar
on year month day = Some (record { year = year; month = month; day = day })

pub record TimeExamples : Type 0 where
  -- EN 300 468, 5.2.4: "93/10/13 12:45:00 is coded as 0xC079124500", "01:45:30 is coded as 0x014530"
  pub annex_day : date_of 0xC079 ≡ on 1993 10 13
  pub annex_time : time_of 0x12 0x45 0x00 ≡ seconds 45900
  pub annex_duration : time_of 0x01 0x45 0x30 ≡ seconds 6330
  pub all_ones : time_of 0xFF 0xFF 0xFF ≡ None
  pub low_hours : time_of 0x0A 0x00 0x00 ≡ None
  pub high_hours : time_of 0xA0 0x00 0x00 ≡ None
  pub low_minutes : time_of 0x00 0x0A 0x00 ≡ None
  pub high_minutes : time_of 0x00 0xA0 0x00 ≡ None
  pub low_seconds : time_of 0x00 0x00 0x0A ≡ None
  pub high_seconds : time_of 0x00 0x00 0xA0 ≡ None
  pub midnight_after : time_of 0x24 0x00 0x00 ≡ seconds 86400
  pub sixty : time_of 0x12 0x60 0x60 ≡ seconds 46860
  pub largest : time_of 0x99 0x99 0x99 ≡ seconds 362439
  pub first_day : date_of 15079 ≡ on 1900 3 1
  pub day_before : date_of 15078 ≡ None
  pub leap_day : date_of 51603 ≡ on 2000 2 29
  pub new_year : date_of 51544 ≡ on 2000 1 1
  pub last_day : date_of 65535 ≡ on 2038 4 22

pub time_examples : TimeExamples
unfolding time_of date_of
time_examples = record {
  annex_day = refl;
  annex_time = refl;
  annex_duration = refl;
  all_ones = refl;
  low_hours = refl;
  high_hours = refl;
  low_minutes = refl;
  high_minutes = refl;
  low_seconds = refl;
  high_seconds = refl;
  midnight_after = refl;
  sixty = refl;
  largest = refl;
  first_day = refl;
  day_before = refl;
  leap_day = refl;
  new_year = refl;
  last_day = refl;
}

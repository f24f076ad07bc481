-- Day numbers, second counts and calendar dates (EN 300 468, 5.2.4: start_time has a modified Julian day in 16 bits and six BCD digits in 24, duration six BCD
-- digits; Annex C: the date of a modified Julian day).
use Rattle.std.specs.Prelude.{ℕ, ◌+◌, ◌*◌, ◌-◌, ◌/◌, ◌%◌, Bool, cond, ◌&&◌, leb, ltb, Option, Some, None}
use Rattle.times.specs.declared.Day.{Day}
use Rattle.times.specs.declared.Seconds.{Seconds}
use Rattle.times.specs.declared.Calendar.{Calendar}

-- both digits of a byte, its upper and its lower four bits, are 0 to 9
abbrev pub is_bcd : ℕ → Bool
is_bcd b = leb (b / 16) 9 && leb (b % 16) 9

-- the number that they write
abbrev pub bcd_of : ℕ → ℕ
bcd_of b = b / 16 * 10 + b % 16

-- HH MM SS; a digit above 9 makes the time undefined
unfoldable pub time_of : (hours minutes seconds : ℕ) → Option Seconds
time_of hours minutes seconds = cond ((is_bcd hours && is_bcd minutes) && is_bcd seconds) (Some (record { 0 = bcd_of hours * 3600 + bcd_of minutes * 60 + bcd_of seconds })) None

-- 16 bits, high byte first
abbrev pub day_of : (high low : ℕ) → Day
day_of high low = record { 0 = high * 256 + low }

-- Annex C: "Y' = int [ (MJD - 15 078,2) / 365,25 ]"
abbrev pub years_of : (mjd : ℕ) → ℕ
years_of mjd = (100 * mjd - 1507820) / 36525

-- "int (Y' × 365,25)"
abbrev pub days_of : (mjd : ℕ) → ℕ
days_of mjd = years_of mjd * 36525 / 100

-- "M' = int { [ MJD - 14 956,1 - int (Y' × 365,25) ] / 30,6001 }"
abbrev pub months_of : (mjd : ℕ) → ℕ
months_of mjd = (10000 * mjd - 149561000 - 10000 * days_of mjd) / 306001

-- "D = MJD - 14 956 - int (Y' × 365,25) - int (M' × 30,6001)"
abbrev pub day_in_month : (mjd : ℕ) → ℕ
day_in_month mjd = mjd - 14956 - days_of mjd - months_of mjd * 306001 / 10000

-- "If M' = 14 or M' = 15, then K = 1; else K = 0"
abbrev pub carry_for : (months : ℕ) → ℕ
carry_for months = cond (leb 14 months) 1 0

abbrev pub carry_of : (mjd : ℕ) → ℕ
carry_of mjd = carry_for (months_of mjd)

-- "Y = Y' + K; M = M' - 1 - K × 12", from 1900 March 1 (day 15,079) on
unfoldable pub date_of : (mjd : ℕ) → Option Calendar
date_of mjd =
    cond (ltb mjd 15079) None (Some (record { year = 1900 + years_of mjd + carry_of mjd; month = months_of mjd - 1 - 12 * carry_of mjd; day = day_in_month mjd }))

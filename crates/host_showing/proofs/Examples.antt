-- The date of EN 300 468's own example, the days at both ends of Annex C's formulas, and what is no day.
-- Assumes nothing.
use mathlib.Core.Path.{◌≡◌, refl}
use Rattle.times.specs.Times.{date_of}
use Rattle.host_showing.specs.Calls.{date_number}

pub record DateExamples : Type 0 where
  pub annex : date_number 49273 ≡ 19931013
  pub first_day : date_number 15079 ≡ 19000301
  pub day_before : date_number 15078 ≡ 0
  pub leap_day : date_number 51603 ≡ 20000229
  pub last_day : date_number 65535 ≡ 20380422
  pub no_day : date_number 65536 ≡ 0

pub date_examples : DateExamples
unfolding date_number date_of
date_examples = record { annex = refl; first_day = refl; day_before = refl; leap_day = refl; last_day = refl; no_day = refl }

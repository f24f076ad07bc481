-- The time of the last line of `counts` after a section that was emitted: the time that it tells, where a line is due at it, else as before.
-- `cond test a b` is a where the test is true, else b.
-- Assumes nothing.
use Rattle.std.specs.Prelude.{ℕ, List, cond, true, Option, Some, None}
use Rattle.clocks.specs.Clocks.{clock_of}
use Rattle.clocks.specs.declared.Stamp.{Stamp}
use Rattle.counts_times.specs.Due.{moment_of, is_due, last_at}
use Rattle.counts_times.specs.declared.Last.{Last}

unfoldable pub last_told : Last → (interval : ℕ) → Stamp → Last
last_told last interval stamp = cond (is_due last (moment_of stamp) interval) (last_at (moment_of stamp)) last

abbrev pub last_after : Last → (interval : ℕ) → Option Stamp → Last
last_after last interval None = last
last_after last interval (Some stamp) = last_told last interval stamp

unfoldable pub last_read : Last → (interval : ℕ) → (section : List ℕ) → Last
last_read last interval section = last_after last interval (clock_of section)

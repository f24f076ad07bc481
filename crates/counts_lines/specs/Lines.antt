-- What a line of `counts` says: a time, or the word `end`, and behind a tab (9) each of 21 numbers in decimal. `cond test a b` is a where the test is true, else b.
-- Assumes nothing.
use Rattle.std.specs.Prelude.{ℕ, ◌+◌, ◌*◌, ◌/◌, ◌%◌, List, [], ◌∷◌, ◌++◌, get_or, Option, Some, None}
use Rattle.text.specs.Text.{decimal}
use Rattle.times.specs.Times.{date_of}
use Rattle.times.specs.declared.Calendar.{Calendar}
use Rattle.clocks.specs.declared.Stamp.{Stamp}
use Rattle.counters.specs.declared.Counters.{Counters}
use Rattle.streams.specs.declared.Streams.{Streams}
use Rattle.store.specs.declared.Sets.{Sets}
use Rattle.eit_state.specs.declared.Eit.{Eit}

-- packets, malformed, nobuffer; completed, emitted, suppressed, short, mismatch, gate_evictions; sets, set_conflicts, set_nocell, set_evictions; present_following,
-- schedules, eit_conflicts, eit_nocell, eit_range, eit_refused, eit_evictions, schedule_evictions. The tally is that of the crate tallies.
unfoldable pub numbers_of : Streams → Counters → (tally : List ℕ) → Sets → Eit → List ℕ
numbers_of s c tally sets eit =
    s.packets ∷ s.malformed ∷ get_or tally 0 0
    ∷ c.completed ∷ c.emitted ∷ c.suppressed ∷ c.short_sections ∷ c.crc_mismatches ∷ c.evictions
    ∷ get_or tally 1 0 ∷ get_or tally 2 0 ∷ get_or tally 3 0 ∷ sets.evictions
    ∷ get_or tally 4 0 ∷ get_or tally 5 0 ∷ get_or tally 6 0 ∷ get_or tally 7 0 ∷ get_or tally 8 0 ∷ get_or tally 9 0 ∷ eit.sets.evictions ∷ eit.schedule_evictions ∷ []

-- `YYYY-MM-DDT`
abbrev pub date_text : Calendar → List ℕ
date_text c =
    (48 + c.year / 1000 % 10) ∷ (48 + c.year / 100 % 10) ∷ (48 + c.year / 10 % 10) ∷ (48 + c.year % 10)
    ∷ 45 ∷ (48 + c.month / 10 % 10) ∷ (48 + c.month % 10) ∷ 45 ∷ (48 + c.day / 10 % 10) ∷ (48 + c.day % 10) ∷ 84 ∷ []

-- `hh:mm:ss`, each byte two digits as they were sent
abbrev pub clock_text : (hours minutes seconds : ℕ) → List ℕ
clock_text hours minutes seconds =
    (48 + hours / 16) ∷ (48 + hours % 16) ∷ 58 ∷ (48 + minutes / 16) ∷ (48 + minutes % 16) ∷ 58 ∷ (48 + seconds / 16) ∷ (48 + seconds % 16) ∷ []

-- a day before 1900-03-01 has no date
abbrev pub dated_text : Option Calendar → List ℕ → List ℕ
dated_text (Some c) t = date_text c ++ t
dated_text None t = t

unfoldable pub stamp_text : Stamp → List ℕ
stamp_text s = dated_text (date_of s.day) (clock_text s.hours s.minutes s.seconds)

-- each number behind a tab
unfoldable pub tabbed : List ℕ → List ℕ
tabbed [] = []
tabbed (n ∷ ns) = (9 ∷ decimal n) ++ tabbed ns

-- what stands behind the time: the numbers and a line feed (10)
unfoldable pub rest_of : (numbers : List ℕ) → List ℕ
rest_of numbers = tabbed numbers ++ (10 ∷ [])

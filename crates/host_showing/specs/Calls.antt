-- What the readers of events answer and leave in what a host lends: what showing/specs/Store.antt says, of the collector that the words hold.
use Rattle.std.specs.Prelude.{ℕ, ◌+◌, ◌*◌, List, [], ◌∷◌, Bool, cond, ◌||◌, eqb, ltb, Option, Some, None}
use Rattle.times.specs.Times.{date_of}
use Rattle.times.specs.declared.Calendar.{Calendar}
use Rattle.eit_state.specs.State.{store}
use Rattle.shown_sections.specs.declared.Shown.{Shown}
use Rattle.shown_sections.specs.Shown.{show_number}
use Rattle.showing.specs.Store.{shown_section, shown_set, shown_table}
use Rattle.host_words.specs.Answers.{Words, words}
use Rattle.host_eit_words.specs.Words.{eit_of}

-- ---- what a listing hands to a host

-- the three words: 0 how many entries there are, 1 the section's number and 2 the place in it where the listing ended early. 10, 41 and 14 leave them as they were
abbrev pub tells_nothing : (number : ℕ) → Bool
tells_nothing number = (eqb number 10 || eqb number 41) || eqb number 14

abbrev pub listed_after : (number : ℕ) → Shown → List ℕ → List ℕ
listed_after number s w = cond (tells_nothing number) w (s.count ∷ s.section ∷ s.place ∷ [])

abbrev pub tells_listed : Shown → List ℕ → Words
tells_listed s w = words (show_number s.answer) (listed_after (show_number s.answer) s w)

-- an answer, the three words, and the list
pub record Listing : Type 0 where
  pub answer : ℕ
  pub listed : List ℕ
  pub list : List ℕ

abbrev pub listing : ℕ → List ℕ → List ℕ → Listing
listing answer listed list = record { answer = answer; listed = listed; list = list }

abbrev pub handed : Shown × List ℕ → List ℕ → Listing
handed s w = listing (show_number s.0.answer) (listed_after (show_number s.0.answer) s.0 w) s.1

-- ---- the calls

unfoldable pub section_listed : (section : List ℕ) → (skip : ℕ) → (list listed : List ℕ) → Listing
section_listed section skip list listed = handed (shown_section section skip list) listed

unfoldable pub set_listed : (eit heads slots cells schedule_heads units : List ℕ) → (row skip : ℕ) → (list listed : List ℕ) → Listing
set_listed eit heads slots cells schedule_heads units row skip list listed = handed (shown_set (store (eit_of eit) heads slots cells schedule_heads units) row skip list) listed

unfoldable pub table_listed : (eit heads slots cells schedule_heads units : List ℕ) → (row table skip : ℕ) → (list listed : List ℕ) → Listing
table_listed eit heads slots cells schedule_heads units row table skip list listed =
    handed (shown_table (store (eit_of eit) heads slots cells schedule_heads units) row table skip list) listed

-- ---- dates

-- eight decimal digits: year, month, day
abbrev pub date_word : Option Calendar → ℕ
date_word (Some c) = c.year * 10000 + c.month * 100 + c.day
date_word None = 0

-- a day number has 16 bits (EN 300 468, 5.2.4)
unfoldable pub date_number : (day : ℕ) → ℕ
date_number day = cond (ltb 65535 day) 0 (date_word (date_of day))

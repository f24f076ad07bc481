-- The entries of EIT sections, and how their listing ends (docs/RULES.md, "Entries"). `cond test a b` is a where the test is true, else b.
use Rattle.std.specs.Prelude.{ℕ, ◌+◌, ◌*◌, ◌-◌, ◌≤◌, ◌<◌, ◌≡◌, List, [], ◌∷◌, ◌++◌, Bool, true, false, cond, length, get_or, take, drop, ltb, Result, Ok, Err}
use Rattle.answers.specs.Answers.{refusal_no}
use Rattle.answers.specs.declared.Refusal.TheVariants as refusal
use Rattle.cells.specs.Cells.{kept_length, cell_number, filled}
use Rattle.eit_section.specs.Eit.{eit_of}
use Rattle.eit_section.specs.declared.Eit.{Eit}
use Rattle.answers.specs.declared.Refusal.{Refusal}
use Rattle.listing.specs.Store.{Found, done, past, entry, descriptor, found_from, put_all, words_of}
use Rattle.listing.specs.declared.Walked.{Walked}
use Rattle.listing.specs.declared.Walked.TheVariants as walked
use Rattle.shown_sections.specs.declared.ShowAnswer.{ShowAnswer}
use Rattle.shown_sections.specs.declared.ShowAnswer.TheVariants.{Yes, No, Refused, Past}
use Rattle.shown_sections.specs.declared.Shown.{Shown}

-- ---- answers

abbrev pub show_number : ShowAnswer → ℕ
-- there are entries from the one asked for on
show_number Yes = 8
show_number No = 9
show_number (Refused r) = refusal_no r
-- a descriptor runs past its loop
show_number Past = 32

abbrev pub shown_as : ShowAnswer → (count section place : ℕ) → Shown
shown_as answer count section place = record { answer = answer; count = count; section = section; place = place }

abbrev pub nothing_shown : ShowAnswer → Shown
nothing_shown answer = shown_as answer 0 0 0

-- ---- what is found: entries by their words, and how it ends

pub data End : Type 0 where
  finished : End
  no_eit : (section : ℕ) → End
  broken : (section : ℕ) → End
  past_loop : (section place : ℕ) → End

pub record Show : Type 0 where
  pub entries : List (List ℕ)
  pub end : End

abbrev pub show : List (List ℕ) → End → Show
show entries end = record { entries = entries; end = end }

-- how a walk ends of a section that begins at `start`: 32 tells the place in the section
unfoldable pub end_by : (number start : ℕ) → Found → End
end_by number start done = finished
end_by number start (past at) = past_loop number (at - start)
end_by number start (entry at header f) = end_by number start f
end_by number start (descriptor at tag size f) = end_by number start f

-- the events of the section of `size` bytes from `start` on, whose layout is an EIT's: from byte 14 to the CRC
unfoldable pub good_show : (bytes : List ℕ) → (start size number : ℕ) → Show
good_show bytes start size number =
    let f : Found = found_from 12 (take (start + size - 4) bytes) (start + 14) 0 in
    show (words_of 0 number f) (end_by number start f)

abbrev pub show_by : (bytes : List ℕ) → (start size number : ℕ) → Result Eit Refusal → Show
show_by bytes start size number (Err refusal.NotEit) = show [] (no_eit number)
show_by bytes start size number (Err r) = show [] (broken number)
show_by bytes start size number (Ok e) = good_show bytes start size number

-- a section: 18 and 19 before its events
unfoldable pub section_show : (bytes : List ℕ) → (start size number : ℕ) → Show
section_show bytes start size number = show_by bytes start size number (eit_of (take size (drop start bytes)))

-- one after another: what ends early is the end
abbrev pub end_then : End → (first second : Show) → Show
end_then finished a b = show (a.entries ++ b.entries) b.end
end_then (no_eit section) a b = a
end_then (broken section) a b = a
end_then (past_loop section place) a b = a

abbrev pub and_then : (first second : Show) → Show
and_then a b = end_then a.end a b

-- the section that a slot's word names, if it names one
unfoldable pub slot_show : (cells : List ℕ) → (size w number : ℕ) → Show
slot_show cells size w number = cond (filled w) (section_show cells (cell_number w * size) (kept_length w) number) (show [] finished)

-- the sections of filled slots by rising number; the first slot has this one
unfoldable pub slots_show : (cells : List ℕ) → (size : ℕ) → (slots : List ℕ) → (number : ℕ) → Show
slots_show cells size [] number = show [] finished
slots_show cells size (w ∷ ws) number = and_then (slot_show cells size w number) (slots_show cells size ws (number + 1))

-- ---- the same as a list: what each filled slot's section shows, by rising number, and one after another

unfoldable pub section_shows : (cells : List ℕ) → (size : ℕ) → (slots : List ℕ) → (number : ℕ) → List Show
section_shows cells size [] number = []
section_shows cells size (w ∷ ws) number =
    cond (filled w) (section_show cells (cell_number w * size) (kept_length w) number ∷ section_shows cells size ws (number + 1)) (section_shows cells size ws (number + 1))

unfoldable pub in_order : List Show → Show
in_order [] = show [] finished
in_order (a ∷ xs) = and_then a (in_order xs)

-- the entries of all
unfoldable pub entries_of : List Show → List (List ℕ)
entries_of [] = []
entries_of (a ∷ xs) = a.entries ++ entries_of xs

-- each of them is listed to its end
pub data AllFinished : List Show → Type 0 where
  finished_none : AllFinished []
  finished_more : {a : Show} {xs : List Show} → a.end ≡ finished → AllFinished xs → AllFinished (a ∷ xs)

-- ends early
abbrev pub ends_early : End → Bool
ends_early finished = false
ends_early (no_eit section) = true
ends_early (broken section) = true
ends_early (past_loop section place) = true

-- ---- what is told of it, and what the list becomes

-- with `count` entries in all: 8 where all is listed, so that more may follow
abbrev pub reached_as : (count : ℕ) → End → Shown
reached_as count finished = shown_as Yes count 0 0
reached_as count (no_eit section) = shown_as (Refused refusal.NotEit) count section 0
reached_as count (broken section) = shown_as (Refused refusal.Broken) count section 0
reached_as count (past_loop section place) = shown_as Past count section place

abbrev pub reached_by : (number start : ℕ) → Walked → Shown
reached_by number start (walked.Done count) = shown_as Yes count 0 0
reached_by number start (walked.Past at count) = shown_as Past count number (at - start)

-- after k entries
unfoldable pub shown_from : (skip k : ℕ) → Show → (list : List ℕ) → Shown × List ℕ
shown_from skip k s list = (reached_as (k + length s.entries) s.end, put_all list skip k s.entries)

abbrev pub goes_on : ShowAnswer → Bool
goes_on Yes = true
goes_on No = false
goes_on (Refused r) = false
goes_on Past = false

-- all is listed: 8 where there are entries past those that the list passes over, 9 where there are none
abbrev pub ended_at : (skip count : ℕ) → Shown
ended_at skip count = shown_as (cond (ltb skip count) Yes No) count 0 0

abbrev pub told_by : (skip : ℕ) → Shown → Shown
told_by skip last = cond (goes_on last.answer) (ended_at skip last.count) last

-- from the first entry on
unfoldable pub laid : (skip : ℕ) → Show → (list : List ℕ) → Shown × List ℕ
laid skip s list = (told_by skip (reached_as (length s.entries) s.end), put_all list skip 0 s.entries)

-- ---- what the parts ask

-- the place that a walk told is not before the section's
abbrev pub From : (start : ℕ) → Walked → Type 0
From start (walked.Done count) = Unit {0}
From start (walked.Past at count) = start ≤ at

-- a section that stands in bytes of that length, with k entries before it
pub record Kept (long start size number k : ℕ) : Type 0 where
  pub within : start + size ≤ long
  pub short : start + size < 4294967296
  pub numbered : number < 256
  pub few : k < 4294967296

-- a slot's word names no section, or one that the cells have
pub record HeldSlot (long size w : ℕ) : Type 0 where
  pub held : filled w ≡ true → cell_number w * size + kept_length w ≤ long

pub record HeldSlots (long size : ℕ) (slots : List ℕ) : Type 0 where
  pub each : (j : ℕ) → j < length slots → HeldSlot long size (get_or slots j 0)

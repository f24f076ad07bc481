-- One section with one event and one descriptor, word by word; the same spoilt for each answer.
-- Assumes nothing.
use mathlib.Core.Path.{◌≡◌, refl}
use mathlib.Core.List.{List, [], ◌∷◌, ◌++◌}
use Prim.Native.Nat.{ℕ}
use lib.ListN.{replicate, set, take}
use Rattle.laws.specs.Entries.{entries_in, whole_entries}
use Rattle.times.specs.Times.{time_of}
use Rattle.entry_words.specs.Words.{event_of, event_words, entry_words, descriptor_words}
use Rattle.section.specs.Judged.{malformed}
use Rattle.eit_section.specs.Eit.{eit_as, eit_of}
use Rattle.listing.specs.Store.{walk, found_from, put_in, put_all, words_of}
use Rattle.answers.specs.declared.Refusal.TheVariants as refusal
use Rattle.shown_sections.specs.declared.ShowAnswer.TheVariants.{Yes, No, Refused, Past}
use Rattle.shown_sections.specs.declared.Shown.{Shown}
use Rattle.shown_sections.specs.Shown.{shown_as, end_by, good_show, section_show, laid}
use Rattle.showing.specs.Store.{shown_section}

-- section 3 of a present/following table: event 1 on 1993-10-13 at 12:45:00 for 01:45:30, running, with a short event descriptor
abbrev section : List ℕ
section =
    0x4E ∷ 0xF0 ∷ 0x25 ∷ 0x00 ∷ 0x01 ∷ 0xCF ∷ 0x03 ∷ 0x03 ∷ 0x00 ∷ 0x01 ∷ 0x21 ∷ 0x74 ∷ 0x03 ∷ 0x4E
    ∷ 0x00 ∷ 0x01 ∷ 0xC0 ∷ 0x79 ∷ 0x12 ∷ 0x45 ∷ 0x00 ∷ 0x01 ∷ 0x45 ∷ 0x30 ∷ 0x80 ∷ 0x0A
    ∷ 0x4D ∷ 0x08 ∷ 0x65 ∷ 0x6E ∷ 0x67 ∷ 0x03 ∷ 0x61 ∷ 0x62 ∷ 0x63 ∷ 0x00
    ∷ 0x59 ∷ 0xDF ∷ 0xD3 ∷ 0xCA ∷ []

abbrev event : List ℕ
event = 1 ∷ 3 ∷ 14 ∷ 1 ∷ 10 ∷ 0 ∷ 49273 ∷ 45900 ∷ 6330 ∷ 4 ∷ 0 ∷ 0 ∷ []

abbrev descriptor : List ℕ
descriptor = 2 ∷ 3 ∷ 26 ∷ 0x4D ∷ 8 ∷ 0 ∷ 0 ∷ 0 ∷ 0 ∷ 0 ∷ 0 ∷ 0 ∷ []

unfoldable pub shows : (bytes : List ℕ) → (skip words : ℕ) → Shown × List ℕ
unfolding entries_in whole_entries time_of event_of event_words entry_words descriptor_words malformed eit_as eit_of walk found_from put_in put_all words_of end_by good_show section_show laid shown_section
shows bytes skip words = shown_section bytes skip (replicate words 7)

pub record ShowingExamples : Type 0 where
  pub all : shows section 0 24 ≡ (shown_as Yes 2 0 0, event ++ descriptor)
  pub second_page : shows section 1 12 ≡ (shown_as Yes 2 0 0, descriptor)
  pub no_more : shows section 2 12 ≡ (shown_as No 2 0 0, replicate 12 7)
  -- a byte less than section_length says
  pub cut : shows (take 39 section) 0 12 ≡ (shown_as (Refused refusal.Malformed) 0 0 0, replicate 12 7)
  pub another_table : shows (set section 0 0x42) 0 12 ≡ (shown_as (Refused refusal.NotEit) 0 3 0, replicate 12 7)
  -- eleven bytes of descriptors, and ten are there
  pub broken : shows (set section 25 0x0B) 0 12 ≡ (shown_as (Refused refusal.Broken) 0 3 0, replicate 12 7)
  -- a descriptor of nine bytes, and eight are there: its event stands
  pub past : shows (set section 27 0x09) 0 24 ≡ (shown_as Past 1 3 26, event ++ replicate 12 7)

pub showing_examples : ShowingExamples
unfolding shows
showing_examples = record { all = refl; second_page = refl; no_more = refl; cut = refl; another_table = refl; broken = refl; past = refl }

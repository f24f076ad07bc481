-- One event with one descriptor, word by word; one byte left; a list that shows one entry of two.
-- Assumes nothing.
use mathlib.Core.Path.{◌≡◌, refl}
use mathlib.Core.List.{List, [], ◌∷◌, ◌++◌}
use Prim.Native.Nat.{ℕ}
use lib.ListN.{replicate}
use Rattle.times.specs.Times.{time_of}
use Rattle.entry_words.specs.Words.{event_of, event_words, entry_words, descriptor_words}
use Rattle.listing.specs.declared.Loop.{Loop}
use Rattle.listing.specs.declared.Walked.{Walked}
use Rattle.listing.specs.declared.Walked.TheVariants.{Done, Past}
use Rattle.listing.specs.Store.{walk, found_from, put_in, put_all, words_of, end_of, listing}

-- event 1, 1993-10-13 12:45:00 for 01:45:30, running, with ten bytes of descriptors: a short event descriptor of eight bytes
abbrev event : List ℕ
event =
    0x00 ∷ 0x01 ∷ 0xC0 ∷ 0x79 ∷ 0x12 ∷ 0x45 ∷ 0x00 ∷ 0x01 ∷ 0x45 ∷ 0x30 ∷ 0x80 ∷ 0x0A ∷ 0x4D ∷ 0x08 ∷ 0x65 ∷ 0x6E ∷ 0x67 ∷ 0x03 ∷ 0x61 ∷ 0x62 ∷ 0x63 ∷ 0x00 ∷ []

abbrev event_is : List ℕ
event_is = 1 ∷ 3 ∷ 0 ∷ 1 ∷ 10 ∷ 0 ∷ 49273 ∷ 45900 ∷ 6330 ∷ 4 ∷ 0 ∷ 0 ∷ []

abbrev descriptor_is : List ℕ
descriptor_is = 2 ∷ 3 ∷ 12 ∷ 0x4D ∷ 8 ∷ 0 ∷ 0 ∷ 0 ∷ 0 ∷ 0 ∷ 0 ∷ 0 ∷ []

-- nine bytes of descriptors: the descriptor of eight bytes runs past them
abbrev cut : List ℕ
cut = 0x00 ∷ 0x01 ∷ 0xC0 ∷ 0x79 ∷ 0xFF ∷ 0xFF ∷ 0xFF ∷ 0x01 ∷ 0x45 ∷ 0x30 ∷ 0x80 ∷ 0x01 ∷ 0x4D ∷ []

abbrev cut_is : List ℕ
cut_is = 1 ∷ 3 ∷ 0 ∷ 1 ∷ 1 ∷ 0 ∷ 49273 ∷ 4294967295 ∷ 6330 ∷ 4 ∷ 0 ∷ 0 ∷ []

abbrev section3 : (skip : ℕ) → Loop
section3 skip = record { header = 12; network = 0; number = 3; skip = skip }

unfoldable pub listed : (bytes : List ℕ) → (skip words : ℕ) → Walked × List ℕ
unfolding time_of event_of event_words entry_words descriptor_words walk found_from put_in put_all words_of end_of listing
listed bytes skip words = listing (section3 skip) bytes 0 0 (replicate words 7) 0

pub record ListingExamples : Type 0 where
  pub both : listed event 0 24 ≡ (Done 2, event_is ++ descriptor_is)
  pub second : listed event 1 13 ≡ (Done 2, descriptor_is ++ (7 ∷ []))
  pub no_room : listed event 0 11 ≡ (Done 2, replicate 11 7)
  pub one_byte_left : listed cut 0 12 ≡ (Past 12 1, cut_is)

pub listing_examples : ListingExamples
unfolding listed
listing_examples = record { both = refl; second = refl; no_room = refl; one_byte_left = refl }

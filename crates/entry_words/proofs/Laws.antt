-- An event and the words of an entry, from the parts that are read; one law for each way out.
-- Assumes nothing.
use Rattle.std.specs.Prelude.{Option}
use mathlib.Core.Path.{◌≡◌, refl}
use mathlib.Core.Bool.{Bool}
use mathlib.Core.List.{List, [], ◌∷◌}
use Prim.Native.Nat.{ℕ, ◌/◌, ◌%◌}
use lib.ListN.{length}
use lib.Dec.{eqb}
use borrow.Author.Tests.{eq-eqb, ne_eqb}
use Rattle.laws.specs.Entries.{counted}
use Rattle.section.specs.Header.{byte_at, word16}
use Rattle.times.specs.Times.{time_of, day_of}
use Rattle.times.specs.declared.Day.{Day}
use Rattle.times.specs.declared.Seconds.{Seconds}
use Rattle.entry_words.specs.declared.Event.{Event}
use Rattle.entry_words.specs.Words.{event_of, seconds_word, flag_word, event_words, plain_words, stream_words, service_words, entry_words}

pub event_read : (h : List ℕ) (id : ℕ) (day : Day) (time duration : Option Seconds) (n : ℕ) → length h ≡ 12 → id ≡ word16 (byte_at h 0) (byte_at h 1) → day ≡ day_of (byte_at h 2) (byte_at h 3)
    → time ≡ time_of (byte_at h 4) (byte_at h 5) (byte_at h 6) → duration ≡ time_of (byte_at h 7) (byte_at h 8) (byte_at h 9) → n ≡ counted (length h) h
    → record {
      event_id = id;
      day = day;
      time = time;
      duration = duration;
      running_status = byte_at h 10 / 32;
      free_ca_mode = eqb (byte_at h 10 / 16 % 2) 1;
      descriptors = n;
    } ≡ event_of h
unfolding event_of
event_read h id day time duration n l a b c d e = rw (a, b, c, d, e, l)

pub event_told : (number at : ℕ) (e : Event) (t d f : ℕ) → t ≡ seconds_word e.time → d ≡ seconds_word e.duration → f ≡ flag_word e.free_ca_mode
    → (1 ∷ number ∷ at ∷ e.event_id ∷ e.descriptors ∷ 0 ∷ e.day.0 ∷ t ∷ d ∷ e.running_status ∷ f ∷ 0 ∷ []) ≡ event_words number at e
unfolding event_words
event_told number at e t d f a b c = rw (a, b, c)

pub plain_told : (number at : ℕ) (h : List ℕ) (id n : ℕ) → id ≡ word16 (byte_at h 0) (byte_at h 1) → n ≡ counted (length h) h
    → (0 ∷ number ∷ at ∷ id ∷ n ∷ 0 ∷ 0 ∷ 0 ∷ 0 ∷ 0 ∷ 0 ∷ 0 ∷ []) ≡ plain_words number at h
unfolding plain_words
plain_told number at h id n a b = rw (a, b)

pub stream_told : (number at : ℕ) (h : List ℕ) (id n network : ℕ) → length h ≡ 6 → id ≡ word16 (byte_at h 0) (byte_at h 1) → n ≡ counted (length h) h → network ≡ word16 (byte_at h 2) (byte_at h 3)
    → (3 ∷ number ∷ at ∷ id ∷ n ∷ network ∷ 0 ∷ 0 ∷ 0 ∷ 0 ∷ 0 ∷ 0 ∷ []) ≡ stream_words number at h
unfolding stream_words
stream_told number at h id n network l a b c = rw (a, b, c, l)

pub service_told : (network number at : ℕ) (h : List ℕ) (id n running ca flags : ℕ) → length h ≡ 5 → id ≡ word16 (byte_at h 0) (byte_at h 1) → n ≡ counted (length h) h
    → running ≡ byte_at h 3 / 32 → ca ≡ byte_at h 3 / 16 % 2 → flags ≡ byte_at h 2 % 4
    → (4 ∷ number ∷ at ∷ id ∷ n ∷ network ∷ 0 ∷ 0 ∷ 0 ∷ running ∷ ca ∷ flags ∷ []) ≡ service_words network number at h
unfolding service_words
service_told network number at h id n running ca flags l a b p q r = rw (a, b, p, q, r, l)

module _ (network number at : ℕ) (h : List ℕ) (r : List ℕ) where
  pub entry_event : (e : Event) → length h ≡ 12 → e ≡ event_of h → r ≡ event_words number at e → r ≡ entry_words network number at h
  unfolding entry_words
  entry_event e l a b = rw (eq-eqb (length h) 12 l, ← a) b

  module _ (l : length h ≡ 12 → ⊥) where
    pub entry_stream : length h ≡ 6 → r ≡ stream_words number at h → r ≡ entry_words network number at h
    unfolding entry_words
    entry_stream m b = rw (ne_eqb (length h) 12 l, eq-eqb (length h) 6 m) b

    module _ (m : length h ≡ 6 → ⊥) where
      pub entry_service : length h ≡ 5 → r ≡ service_words network number at h → r ≡ entry_words network number at h
      unfolding entry_words
      entry_service n b = rw (ne_eqb (length h) 12 l, ne_eqb (length h) 6 m, eq-eqb (length h) 5 n) b

      pub entry_plain : (length h ≡ 5 → ⊥) → r ≡ plain_words number at h → r ≡ entry_words network number at h
      unfolding entry_words
      entry_plain n b = rw (ne_eqb (length h) 12 l, ne_eqb (length h) 6 m, ne_eqb (length h) 5 n) b

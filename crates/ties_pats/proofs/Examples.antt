-- Real sections: a PAT of two sections, in either order, repeated, half renewed, renewed, one marked next, a conflict, and another transport stream. N is whatever it was before the first of them.
-- Assumes nothing.
use mathlib.Core.Path.{◌≡◌, refl}
use mathlib.Core.Bool.{Bool, true, false}
use mathlib.Core.List.{List, [], ◌∷◌, map}
use Prim.Native.Nat.{ℕ}
use Rattle.laws.specs.Runs.{store_after}
use Rattle.crc.specs.Crc.{crc_from, bits_in, bit_in}
use Rattle.section.specs.Header.{stored_crc, worked_crc, header_of}
use Rattle.section.specs.Judged.{malformed, collected_long, collected_of}
use Rattle.pat.specs.Pat.{program_pids}
use Rattle.rules_shared.specs.Same.{Bytes, same_bytes, same_origin}
use Rattle.rules_shared.specs.Slots.{is_held, present}
use Rattle.rules_shared.specs.Touch.{oldest_gone, room, leaves, count, find, remove, others, evicts, untouched, aside, newest}
use Rattle.rules_shared.specs.Row.{fresh, fits, start, slot_of, keep, marked, put_over, put}
use Rattle.rules_sets.specs.Rules.{same_key, part_of, full, whole, met_row, judged, judge, finish, push, admit, step, tells, acts, opened}
use Rattle.ties_sets.specs.View.{reads_as, read_section}
use Rattle.pats.specs.Store.{enters}
use Rattle.ties_pats.specs.Rules.{programs_of_set, entered}
use Rattle.ties_pats.specs.View.{Sent, taking}

-- section 0 of 1, transport_stream_id 1, version 0: program 1 at 0x0100
abbrev pub A : Bytes
A = 0x00 ∷ 0xB0 ∷ 0x0D ∷ 0x00 ∷ 0x01 ∷ 0xC1 ∷ 0x00 ∷ 0x01 ∷ 0x00 ∷ 0x01 ∷ 0xE1 ∷ 0x00 ∷ 0xA1 ∷ 0xF4 ∷ 0x39 ∷ 0xF0 ∷ []

-- section 1 of 1: program 0 at 0x0010 and program 2 at 0x0200
abbrev pub B : Bytes
B = 0x00 ∷ 0xB0 ∷ 0x11 ∷ 0x00 ∷ 0x01 ∷ 0xC1 ∷ 0x01 ∷ 0x01 ∷ 0x00 ∷ 0x00 ∷ 0xE0 ∷ 0x10 ∷ 0x00 ∷ 0x02 ∷ 0xE2 ∷ 0x00 ∷ 0x9C ∷ 0xB4 ∷ 0xC4 ∷ 0xCD ∷ []

-- section 0 of 1 of the next version: program 3 at 0x0300
abbrev pub A' : Bytes
A' = 0x00 ∷ 0xB0 ∷ 0x0D ∷ 0x00 ∷ 0x01 ∷ 0xC3 ∷ 0x00 ∷ 0x01 ∷ 0x00 ∷ 0x03 ∷ 0xE3 ∷ 0x00 ∷ 0x9C ∷ 0x19 ∷ 0x2E ∷ 0xD3 ∷ []

-- and section 1 of 1: program 4 at 0x0400
abbrev pub B' : Bytes
B' = 0x00 ∷ 0xB0 ∷ 0x0D ∷ 0x00 ∷ 0x01 ∷ 0xC3 ∷ 0x01 ∷ 0x01 ∷ 0x00 ∷ 0x04 ∷ 0xE4 ∷ 0x00 ∷ 0xB5 ∷ 0xF5 ∷ 0x1A ∷ 0x44 ∷ []

-- one that is marked next, of the next version: program 5 at 0x0500
abbrev pub C : Bytes
C = 0x00 ∷ 0xB0 ∷ 0x0D ∷ 0x00 ∷ 0x01 ∷ 0xC2 ∷ 0x00 ∷ 0x00 ∷ 0x00 ∷ 0x05 ∷ 0xE5 ∷ 0x00 ∷ 0x7B ∷ 0x46 ∷ 0x75 ∷ 0xFB ∷ []

-- section 0 of 1 of version 0 with other bytes: program 6 at 0x0600
abbrev pub D : Bytes
D = 0x00 ∷ 0xB0 ∷ 0x0D ∷ 0x00 ∷ 0x01 ∷ 0xC1 ∷ 0x00 ∷ 0x01 ∷ 0x00 ∷ 0x06 ∷ 0xE6 ∷ 0x00 ∷ 0x93 ∷ 0x30 ∷ 0x00 ∷ 0x1F ∷ []

-- a PAT of one section of another transport stream: program 7 at 0x0700
abbrev pub E : Bytes
E = 0x00 ∷ 0xB0 ∷ 0x0D ∷ 0x00 ∷ 0x02 ∷ 0xC1 ∷ 0x00 ∷ 0x00 ∷ 0x00 ∷ 0x07 ∷ 0xE7 ∷ 0x00 ∷ 0xE5 ∷ 0x1E ∷ 0x6F ∷ 0x97 ∷ []

-- ---- N after some of them, on input 0

abbrev on : Bytes → Sent
on section = record { input = 0; section = section }

module _ (n : ℕ → Bool) where
  unfoldable pub after : List Bytes → ℕ → Bool
  unfolding store_after taking entered enters read_section reads_as collected_of collected_long malformed header_of stored_crc worked_crc crc_from bits_in bit_in same_bytes same_origin is_held present oldest_gone room leaves count find remove others evicts untouched aside newest fresh fits start slot_of keep marked put_over put same_key part_of full whole met_row judged judge finish push admit step tells acts
  after sections = (store_after taking (record { sets = opened; n = n }) (map on sections)).n

  -- after the first neither programme, whichever it is
  pub only_A : after (A ∷ []) ≡ n
  unfolding after
  only_A = refl

  pub only_B : after (B ∷ []) ≡ n
  unfolding after
  only_B = refl

  -- after both both
  pub A-then-B : after (A ∷ B ∷ []) ≡ programs_of_set (A ∷ B ∷ [])
  unfolding after
  A-then-B = refl

  pub B-then-A : after (B ∷ A ∷ []) ≡ programs_of_set (A ∷ B ∷ [])
  unfolding after
  B-then-A = refl

  -- the repeat of either changes nothing, nor does the first half of the next version, nor one marked next
  pub A-again : after (A ∷ B ∷ A ∷ []) ≡ programs_of_set (A ∷ B ∷ [])
  unfolding after
  A-again = refl

  pub B-again : after (A ∷ B ∷ B ∷ []) ≡ programs_of_set (A ∷ B ∷ [])
  unfolding after
  B-again = refl

  pub half_renewed : after (A ∷ B ∷ A' ∷ []) ≡ programs_of_set (A ∷ B ∷ [])
  unfolding after
  half_renewed = refl

  pub renewed : after (A ∷ B ∷ A' ∷ B' ∷ []) ≡ programs_of_set (A' ∷ B' ∷ [])
  unfolding after
  renewed = refl

  pub marked_next : after (A ∷ B ∷ C ∷ []) ≡ programs_of_set (A ∷ B ∷ [])
  unfolding after
  marked_next = refl

  -- a conflict changes nothing; another transport stream's PAT is followed, and then the first again only when it is complete again
  pub clash : after (A ∷ B ∷ D ∷ []) ≡ programs_of_set (A ∷ B ∷ [])
  unfolding after
  clash = refl

  pub other_stream : after (A ∷ B ∷ E ∷ A ∷ []) ≡ programs_of_set (E ∷ [])
  unfolding after
  other_stream = refl

  pub and_back : after (A ∷ B ∷ E ∷ A ∷ B ∷ []) ≡ programs_of_set (A ∷ B ∷ [])
  unfolding after
  and_back = refl

-- programs 1 and 2, and not program 0 of the second section
pub both : map (programs_of_set (A ∷ B ∷ [])) (0x0100 ∷ 0x0200 ∷ 0x0010 ∷ []) ≡ true ∷ true ∷ false ∷ []
unfolding programs_of_set program_pids
both = refl

-- What a record that follows complete PATs stands for, its enterings one after another, and what a complete PAT is.
-- Assumes nothing.
use Rattle.std.specs.Prelude.{ℕ, suc, ◌≤◌, ◌<◌, ◌≡◌, ◌≢◌, true, false, cond, List, [], ◌∷◌, length, get_or, Some}
use Rattle.laws.specs.Bits.{has_bit}
use Rattle.section.specs.Facts.{Bytes}
use Rattle.section.specs.Header.{extension_of, version_of, section_number, last_section_number, stored_crc, worked_crc}
use Rattle.pat.specs.Pat.{set_n}
use Rattle.watched.specs.Store.{followed_of}
use Rattle.watched.specs.Rules.{Watch, followed_by}
use Rattle.rules_sets.specs.Rules.{Whole, Answer, conflict}
use Rattle.rules_sets.specs.Cells.{view}
use Rattle.sets.specs.History as sets
use Rattle.ties_sets.specs.View as ties
use Rattle.ties_sets.specs.View.{seen}
use Rattle.pats.specs.Store.{Record, pat_store, pats_full, enters, entered_in}
use Rattle.ties_pats.specs.Rules.{Pats, entered}

-- ---- a record, in the words of the rules

-- the sections collected, and N
abbrev pub shown : Record → Pats
shown r = record { sets = view (seen (pat_store r)); n = has_bit (followed_of r.words) }

-- as opening leaves a record: room, no row, no eviction; nothing is asked of what else the lent memory holds
pub record Opened (r : Record) : Type 0 where
  pub words : 398 ≤ length r.words
  pub slots : 288 ≤ length r.slots
  pub cells : 262144 ≤ length r.cells
  pub used : get_or r.words 384 0 ≡ 0
  pub evictions : get_or r.words 385 0 ≡ 0

-- ---- enterings

-- a section of PID 0 on an input
pub record Sent : Type 0 where
  pub input : ℕ
  pub section : List ℕ

-- 11 leaves all as it was
unfoldable pub entering : Record → Sent → Record
entering r x = cond (pats_full r.words) r (entered_in r x.input x.section)

-- by the rules
unfoldable pub taking : Pats → Sent → Pats
taking p x = entered p x.input x.section

-- what the PAT store tells of a section
abbrev pub tells_of : Record → Sent → Answer
tells_of r x = ties.tells (pat_store r) (sets.offer x.input (Some 0) x.section)

-- sections are bytes
abbrev pub OfBytes : List Sent → Type 0
OfBytes [] = Unit {0}
OfBytes (x ∷ xs) = Bytes x.section × OfBytes xs

-- the count is at its end before none of them
abbrev pub NeverFull : Record → List Sent → Type 0
NeverFull r [] = Unit {0}
NeverFull r (x ∷ xs) = (pats_full r.words ≡ false) × NeverFull (entering r x) xs

-- ---- what a PAT consists of

-- section j of a PAT: current and readable, of the transport_stream_id, version and last_section_number that all have, with the right CRC; and `Came` of it
pub record PartOf (Came : List ℕ → Type 0) (s v l j : ℕ) (section : List ℕ) : Type 0 where
  pub bytes : Bytes section
  pub pat : enters section ≡ true
  pub sound : worked_crc section ≡ stored_crc section
  pub stream : extension_of section ≡ s
  pub version : version_of section ≡ v
  pub last : last_section_number section ≡ l
  pub number : section_number section ≡ j
  pub came : Came section

-- all its sections, 0 to last_section_number
pub record CompletePat (Came : List ℕ → Type 0) (w : Whole) : Type 0 where
  pub all : length w.sections ≡ suc w.last
  pub each : (j : ℕ) → j ≤ w.last → PartOf Came w.key.extension w.version w.last j (get_or w.sections j [])

-- ---- PATs of one section

-- a current PAT, section 0 of 0, with the right CRC, on an input of the card
pub record Single (x : Sent) : Type 0 where
  pub input : x.input < 16
  pub bytes : Bytes x.section
  pub pat : enters x.section ≡ true
  pub sound : worked_crc x.section ≡ stored_crc x.section
  pub number : section_number x.section ≡ 0
  pub last : last_section_number x.section ≡ 0

-- each of them is one, none conflicts with what the record holds, and the count is at its end before none
abbrev pub Singles : Record → List Sent → Type 0
Singles r [] = Unit {0}
Singles r (x ∷ xs) = Single x × (tells_of r x ≢ conflict) × (pats_full r.words ≡ false) × Singles (entering r x) xs

-- the watch after following each of them
unfoldable pub follow_each : Watch → List Sent → Watch
follow_each w [] = w
follow_each w (x ∷ xs) = follow_each (followed_by (set_n x.section) w) xs

-- Segments of a set of EIT sections (EN 300 468, 5.2.4): eight section numbers each, from 0 on. A row has 32 words for them, before its slots:
-- 0 where no section of the segment was kept, else its segment_last_section_number and 1. For every content of the lent slices.
use Rattle.std.specs.Prelude.{ℕ, zero, suc, ◌+◌, ◌-◌, ◌*◌, ◌/◌, min, List, Bool, true, cond, not, ◌&&◌, get_or, take, drop, set, eqb}
use Rattle.cells.specs.Cells.{all_filled}
use Rattle.eit_section.specs.Segment.{segment_end}
use Rattle.rows.specs.Rows.{slots_at, emptied, kept_slots, last_of}
use Rattle.rows.specs.declared.Entry.{Entry}
use Rattle.rows.specs.declared.Room.{Room}

-- word k of row i, of 288 words
abbrev pub word_of : List ℕ → ℕ → ℕ → ℕ
word_of slots i k = get_or slots (i * 288 + k) 0

abbrev pub with_word : ℕ → ℕ → ℕ → List ℕ → List ℕ
with_word i k v slots = set slots (i * 288 + k) v

-- slots `start` to `end` of row i are filled
unfoldable pub filled_to : List ℕ → ℕ → ℕ → ℕ → Bool
filled_to slots i start end = all_filled (take (end + 1 - start) (drop (slots_at i + start) slots))

-- segment s has a last number, and its slots are filled up to the end that this number says
unfoldable pub segment_complete : List ℕ → ℕ → ℕ → ℕ → Bool
segment_complete slots i last s =
    not (eqb (word_of slots i s) 0) && filled_to slots i (s * 8) (segment_end (s * 8) (word_of slots i s - 1) last)

-- so are the first n segments
unfoldable pub segments_complete : List ℕ → ℕ → ℕ → ℕ → Bool
segments_complete slots i last zero = true
segments_complete slots i last (suc n) = segment_complete slots i last n && segments_complete slots i last n

-- "A set is complete if each segment from 0 to last_section_number / 8" is: row i has as many slots as its head says, 256 at most
unfoldable pub set_complete : List ℕ → List ℕ → ℕ → Bool
set_complete heads slots i = segments_complete slots i (min (last_of heads i) 255) (min (last_of heads i) 255 / 8 + 1)

-- a section is kept: its slot gets the word w and its segment the word n. A row that begins anew has no segments yet
unfoldable pub kept_section : Room → Entry → ℕ → ℕ → List ℕ → List ℕ
kept_section r e n w slots = with_word r.row (e.number / 8) n (kept_slots r e w (cond r.fresh (emptied (r.row * 288) 32 slots) slots))

-- Segments (EN 300 468, 5.2.4; docs/RULES.md, "Collectors"): "Segments are of eight numbers, from 0".
-- Assumes nothing.
use Rattle.std.specs.Prelude.{Bool, true, false, ◌&&◌, List, ℕ, zero, suc, ◌+◌, ◌*◌, ◌-◌, ◌/◌, ◌%◌, min, get_or, replicate}
use Rattle.std.proofs.Math.Option.{Option, none, some}
use Rattle.rules_shared.specs.Slots.{is_held}
use Rattle.rules_shared.specs.Row.{RowOf}

-- the last section number of a segment: "min(start + number mod 8, last_section_number)", where number is its segment_last_section_number
unfoldable pub segment_end : (segment_start segment_last_section_number last_section_number : ℕ) → ℕ
segment_end segment_start segment_last_section_number last_section_number = min (segment_start + segment_last_section_number % 8) last_section_number

-- the segment of a section
abbrev pub segment_of : (section_number : ℕ) → ℕ
segment_of number = number / 8

-- a row's notes: the last number of each of the 32 segments that 256 section numbers have, none until a section of it is kept
abbrev pub SegmentLasts : Type 0
SegmentLasts = List (Option ℕ)

abbrev pub no_lasts : SegmentLasts
no_lasts = replicate 32 none

abbrev pub SetOf : Type 0 → Type 0
SetOf A = RowOf SegmentLasts A

module _ {A : Type 0} where
  -- the n slots from a on are all filled
  unfoldable pub held_from : List (Option A) → (a n : ℕ) → Bool
  held_from slots a zero = true
  held_from slots a (suc n) = is_held (get_or slots a none) && held_from slots (suc a) n

  -- the segment that starts at `from` "has a last number and all slots from start to" its end "are filled"
  unfoldable pub segment_full : (last : ℕ) → List (Option A) → (from : ℕ) (number : Option ℕ) → Bool
  segment_full last slots from none = false
  segment_full last slots from (some number) = held_from slots from (suc (segment_end from number last) - from)

  -- so the n segments from g on
  unfoldable pub segments_full : (last : ℕ) → List (Option A) → SegmentLasts → (g n : ℕ) → Bool
  segments_full last slots lasts g zero = true
  segments_full last slots lasts g (suc n) = segment_full last slots (8 * g) (get_or lasts g none) && segments_full last slots lasts (suc g) n

  -- "A set is complete if each segment from 0 to last_section_number / 8" is so
  unfoldable pub complete : SetOf A → Bool
  complete r = segments_full r.last r.slots r.notes 0 (suc (segment_of r.last))
